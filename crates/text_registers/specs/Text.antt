-- All registers by name: a paragraph for each group, in the order of the groups' numbers. A paragraph is the group's lines
-- and an empty line. A group has a line for each sixteen indexes of which at least one is listed, in ascending order; MSR and
-- PALMASK have one line each. The text is made of what has a name alone, so it is the same whatever the indexes and the
-- palette's loading state are. How long it is, where a register's digits stand, and that it tells every listed register are
-- laws: proofs/Lengths, Places, Telling. It is put where 8,192 bytes are left (`AddedIn` of the crate text).
use Rattle.std.specs.Prelude.{ℕ, zero, suc, ◌+◌, ◌*◌, Bool, true, false, cond, ◌||◌, List, [], ◌++◌, Option, Some, None}
use Rattle.chip_registers.specs.Groups.{group_at, row_of}
use Rattle.chip_registers.specs.declared.Group.{Group}
use Rattle.chip.specs.State.{Named}
use Rattle.text.specs.Ascii.{ascii}
use Rattle.text_registers.specs.Line.{joined, across, line}
use Rattle.chip_registers.specs.declared.Row.{Row}

abbrev pub is_listed : Option Row → Bool
is_listed (Some row) = true
is_listed None = false

-- whether one of the first k indexes from i on is listed
unfoldable pub any_listed : Group → ℕ → ℕ → Bool
any_listed g i zero = false
any_listed g i (suc k) = any_listed g i k || is_listed (row_of g (i + k))

-- the line of the indexes from i on, or nothing where none of them is listed
unfoldable pub line_at : ℕ → Named → ℕ → List ℕ
line_at g n i = cond (any_listed (group_at g) i (across g)) (line g n i) []

-- the lines of the first k sixteens of indexes
abbrev pub lines_to : ℕ → Named → ℕ → List ℕ
lines_to g n k = joined (λ (j : ℕ). line_at g n (16 * j)) k

-- a group's lines, and an empty line
unfoldable pub paragraph : ℕ → Named → List ℕ
paragraph g n = lines_to g n (across g) ++ ascii "\n"

-- the paragraphs of the first k groups
abbrev pub paragraphs_to : Named → ℕ → List ℕ
paragraphs_to n k = joined (λ (g : ℕ). paragraph g n) k

-- all registers: the groups are those of the numbers 0 to 8
abbrev pub dumped : Named → List ℕ
dumped n = paragraphs_to n 9
