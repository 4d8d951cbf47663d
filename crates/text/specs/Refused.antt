-- The line of a refusal: `refused`, a space, the number of "Numbers returned" in decimal, and a line feed (document 01, "The
-- listing program"). And in front of it where: a word, a number in decimal, a colon and a space, as `show: block 3: `. The
-- longest line of a refusal has 29 bytes, and a place 22 and its word: proofs/Adding.
use Rattle.std.specs.Prelude.{ℕ, List, ◌++◌}
use Rattle.text.specs.Ascii.{ascii}
use Rattle.text.specs.Digits.{decimal}

abbrev pub refused : ℕ → List ℕ
refused number = ascii "refused " ++ decimal number ++ ascii "\n"

abbrev pub placed : List ℕ → ℕ → List ℕ
placed word k = word ++ decimal k ++ ascii ": "
