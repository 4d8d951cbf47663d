-- A line of registers: the name of its first one, `XR60`, and then for each a space and two characters. A listed register has
-- the two digits of its byte, an index that is not listed has `--`. A line has sixteen registers; MSR and PALMASK are one
-- register each, and their line is `MSR 67`. A group goes by its number (document 01, "Ports"; AR is 8). The byte of a
-- register is read by name: no index register and no loading state is looked at. Names are the crate text_steps'.
use Rattle.std.specs.Prelude.{ℕ, zero, suc, ◌+◌, cond, ◌||◌, List, [], ◌++◌, eqb, Option, Some, None}
use Rattle.chip_registers.specs.Groups.{group_at, row_of}
use Rattle.chip_registers.specs.declared.Group.{Group}
use Rattle.chip.specs.State.{Named}
use Rattle.chip.specs.Names.{register}
use Rattle.text.specs.Ascii.{ascii}
use Rattle.text.specs.Digits.{byte_digits}
use Rattle.text_steps.specs.Written.{name_text}
use Rattle.chip_registers.specs.declared.Row.{Row}

-- the two characters of a row whose register holds this byte
abbrev pub shown : Option Row → ℕ → List ℕ
shown (Some row) byte = byte_digits byte
shown None byte = ascii "--"

-- a space and the two characters of an index
abbrev pub cell : Group → Named → ℕ → List ℕ
cell g n i = ascii " " ++ shown (row_of g i) (register g n i)

-- the first k of some pieces of text, one behind the other
unfoldable pub joined : (ℕ → List ℕ) → ℕ → List ℕ
joined piece zero = []
joined piece (suc k) = joined piece k ++ piece k

-- the cells of the first k indexes from i on
abbrev pub cells_to : Group → Named → ℕ → ℕ → List ℕ
cells_to g n i k = joined (λ (j : ℕ). cell g n (i + j)) k

-- how many registers a line of a group has, and how many lines it has at most
unfoldable pub across : ℕ → ℕ
across g = cond (eqb g 6 || eqb g 7) 1 16

-- the line of the indexes from i on
unfoldable pub line : ℕ → Named → ℕ → List ℕ
line g n i = name_text g i ++ cells_to (group_at g) n i (across g) ++ ascii "\n"
