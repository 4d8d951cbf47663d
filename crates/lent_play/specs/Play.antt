-- A script file played on lent bytes: what is answered, what is left of the buffer, and what it means by name. What is left of
-- the state is said by `Left` (crate `lent_chip`) of the chip that crate `chip_play`'s definition gives. Document 01, "Scripts".
-- Demand 3 after each step is specs/Demand3.
use Rattle.std.specs.Prelude.{ℕ, ◌≡◌, cond, List, length, Result, Ok, Err}
use Rattle.script_commands.specs.Translation.{translated, left_by}
use Rattle.lists.specs.Numbers.{Returned, returned}
use Rattle.chip_play.specs.Played.{played, ByName, of_outcome, play_table}
use Rattle.lent_chip.specs.Layout.{whole, view}
use Rattle.lent_chip.specs.Accesses.{is_state}
use Rattle.lent_chip.specs.Numbers.{no_state}
use Rattle.chip_run.specs.declared.Tally.{Tally}
use Rattle.script.specs.declared.Refusal.{Refusal}
use Rattle.lent_chip.specs.declared.access.StateError.{StateError}
use Rattle.lent_chip.specs.declared.access.StateError.TheVariants.{Length}

-- the answer: what became of the script, or that the bytes are no state
abbrev pub play_answer : List ℕ → List ℕ → ℕ → Result (Result Tally Refusal) StateError
play_answer l file room = cond (is_state l) (Ok (played (view l) file room).outcome) (Err Length)

-- its number and value: those of what became of the script, or that the bytes are no state
abbrev pub of_lent_played : Result (Result Tally Refusal) StateError → Returned
of_lent_played (Ok o) = of_outcome o
of_lent_played (Err Length) = returned no_state 0

-- the table of numbers for a script played on lent bytes: that of the script played on the chip that they hold
abbrev pub lent_play_table : List ℕ → List ℕ → ℕ → Returned
lent_play_table l file room = cond (is_state l) (play_table (view l) file room) (returned no_state 0)

-- the buffer: the commands of an accepted file stand in it, and bytes that are no state leave it alone
abbrev pub buffer_left : List ℕ → List ℕ → List ℕ → List ℕ
buffer_left l file buffer = cond (is_state l) (left_by (translated file (length buffer)) file buffer) buffer

-- by name: what became of the script, and the chip that the bytes hold now, are what crate `chip_play` promises of the chip that
-- they held
pub record ByNameIn (l file : List ℕ) (room : ℕ) (m : List ℕ) (r : Result (Result Tally Refusal) StateError) : Type 0 where
  pub as_named : length l ≡ whole → (o : Result Tally Refusal) → r ≡ Ok o → ByName (translated file room) (view l) file (record { chip = view m; outcome = o })
