-- What crosses the boundary beside the numbers of the crates below: the versions, the number of a reset, what a write tells, and
-- the commands that were carried out and that changed something. Numbers are document 01's ("Numbers returned"), and `no_state`
-- for bytes that are no state. What has a longer value writes it to a place that the caller lends.
use Rattle.std.specs.Prelude.{ℕ, Result, Ok, Err}
use Rattle.lent_chip.specs.Accesses.{Told}
use Rattle.lent_chip.specs.Numbers.{no_state}
use Rattle.chip_run.specs.declared.Tally.{Tally}
use Rattle.script.specs.declared.Refusal.{Refusal}
use Rattle.chip_run.specs.Run.{tally}
use Rattle.lent_chip.specs.declared.access.StateError.{StateError}
use Rattle.lent_chip.specs.declared.access.StateError.TheVariants.{Length}

-- which library this is: one more wherever a C program can see a change
abbrev pub library_version : ℕ
library_version = 4

-- what the bytes of a state mean: one more wherever the meaning of a byte changes. 1 had a table of 256 for each group; 2 has the
-- row of the listed registers (document 02, P7)
abbrev pub state_version : ℕ
state_version = 2

abbrev pub reset_number : Result (Unit {0}) StateError → ℕ
reset_number (Ok tt) = 0
reset_number (Err Length) = no_state

-- a write's word has the number and the two bytes, and nothing above them
abbrev pub in_c : Told → Told
in_c t = record { number = t.number; changed = 0; before = t.before; after = t.after }

-- the commands that a run carried out, and those of them that changed a register or a colour
abbrev pub run_count : Result Tally StateError → ℕ
run_count (Ok t) = t.count
run_count (Err Length) = 0

abbrev pub run_changing : Result Tally StateError → ℕ
run_changing (Ok t) = t.changing
run_changing (Err Length) = 0

-- the same of a script's commands
abbrev pub count_of : Result Tally Refusal → ℕ
count_of (Err why) = 0
count_of (Ok t) = t.count

abbrev pub changing_of : Result Tally Refusal → ℕ
changing_of (Err why) = 0
changing_of (Ok t) = t.changing

abbrev pub play_count : Result (Result Tally Refusal) StateError → ℕ
play_count (Ok o) = count_of o
play_count (Err Length) = 0

abbrev pub play_changing : Result (Result Tally Refusal) StateError → ℕ
play_changing (Ok o) = changing_of o
play_changing (Err Length) = 0
