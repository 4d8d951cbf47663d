-- A step as a line of text, in ASCII: `SET XR60 43`, `FIELD XR80 80 80` (mask, then value), `COLOUR FF 3F 00 15`, `SET MSR 67`,
-- `SET PALMASK FF`. Words and digits are capitals, one space stands between words, and a byte has two digits. That a line reads
-- back as its step is proofs/ReadBack.
use Rattle.std.specs.Prelude.{ℕ, cond, List, ◌∷◌, ◌++◌, eqb}
use Rattle.text.specs.Ascii.{ascii}
use Rattle.text.specs.Digits.{byte_digits}
use Rattle.script_steps.specs.declared.Step.{Step}
use Rattle.script_steps.specs.declared.Step.TheVariants.{Set, Field, Colour}

-- the first letter of an indexed group: C, S, G, X, F, M, and A; `?` for a group that there is not
unfoldable pub letter : ℕ → ℕ
letter group =
    cond (eqb group 0) 0x43
    (cond (eqb group 1) 0x53
    (cond (eqb group 2) 0x47
    (cond (eqb group 3) 0x58
    (cond (eqb group 4) 0x46
    (cond (eqb group 5) 0x4D
    (cond (eqb group 8) 0x41 0x3F))))))

unfoldable pub name_text : ℕ → ℕ → List ℕ
name_text group index =
    cond (eqb group 6) (ascii "MSR")
    (cond (eqb group 7) (ascii "PALMASK")
    (letter group ∷ ascii "R" ++ byte_digits index))

-- a byte behind a space
abbrev pub byte_text : ℕ → List ℕ
byte_text value = ascii " " ++ byte_digits value

unfoldable pub step_text : Step → List ℕ
step_text (Set group index value) = ascii "SET " ++ name_text group index ++ byte_text value
step_text (Field group index value mask) =
    ascii "FIELD " ++ name_text group index ++ byte_text mask ++ byte_text value
step_text (Colour entry red green blue) =
    ascii "COLOUR" ++ byte_text entry ++ byte_text red ++ byte_text green ++ byte_text blue

abbrev pub step_line : Step → List ℕ
step_line s = step_text s ++ ascii "\n"
