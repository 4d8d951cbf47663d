-- What a program says of a file that it refuses, in one line on standard error: its name, where the file is not right,
-- counted from 0 as document 01 counts places, the number and its words. `show: block 3: refused 6, a block breaks a layout
-- or check rule`, `after: refused 8, not 1 to 12 whole blocks, or not 1 to 1008 steps`. Room is asked for the name and 128
-- bytes, and for a reason alone 91: no complaint is longer (proofs/Lengths).
use Rattle.std.specs.Prelude.{ℕ, List, [], ◌++◌}
use Rattle.text.specs.Digits.{decimal}
use Rattle.text.specs.Refused.{placed}
use Rattle.script.specs.Numbers.{of_refusal}
use Rattle.script.specs.declared.Refusal.{Refusal}
use Rattle.script.specs.declared.Refusal.TheVariants.{Length, Block, Step, Room}
use Rattle.text.specs.Ascii.{ascii}
use Rattle.text_refusals.specs.Words.{words_of}

-- the number and its words
unfoldable pub reason : ℕ → List ℕ
reason number = ascii "refused " ++ decimal number ++ ascii ", " ++ words_of number ++ ascii "\n"

-- where
abbrev pub place_of : Refusal → List ℕ
place_of (Block k) = placed (ascii "block ") k
place_of (Step j why) = placed (ascii "step ") j
place_of Length = []
place_of Room = []

unfoldable pub complaint : List ℕ → Refusal → List ℕ
complaint name r = name ++ ascii ": " ++ place_of r ++ reason (of_refusal r).number
