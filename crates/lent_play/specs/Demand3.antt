-- Demand 3 on lent bytes, to read: after the commands of each step the chip that the bytes hold is by name what the steps say;
-- with the short list too (document 02, P8), and there it is the chip that the plain list leaves.
-- The run is that of crate `lent_run`, whose contract has the two premises on its answer and on the bytes that it leaves;
-- `begins` is what `step_commands` of crate `script_commands` answers. The bytes may hold any state whose ports are open, reached
-- by accesses or not. The theorem is `demand_3_in`, in proofs/Demand3; the definitions under it and the laws beside it are those
-- of specs/Demand3 of crate `chip_play`, and for the short list of crate `chip_short`.
use Rattle.std.specs.Prelude.{ℕ, ◌≤◌, ◌≡◌, true, List, length, Result, Ok}
use Rattle.lists.specs.Numbers.{returned}
use Rattle.chip.specs.State.{named}
use Rattle.chip.specs.Names.{ports_open}
use Rattle.script.specs.File.{checked}
use Rattle.script_commands.specs.Command.{bytes_of_all}
use Rattle.script_commands.specs.Translation.{steps_to, commands_to, begins}
use Rattle.script_short.specs.Short.{short_to, short_begins}
use Rattle.chip_run.specs.Run.{of_ending, tally}
use Rattle.chip_run.specs.declared.Ending.{Ending}
use Rattle.chip_play.specs.ByName.{applied_all, steps_changing}
use Rattle.chip_play.specs.Demand3.{ran_steps}
use Rattle.chip_short.specs.Demand3.{ran_short}
use Rattle.lent_chip.specs.Layout.{whole, view, spare}
use Rattle.lent_chip.specs.Accesses.{Left}
use Rattle.lent_run.specs.Run.{run_answer}
use Rattle.lent_chip.specs.declared.access.StateError.{StateError}
use Rattle.chip_run.specs.declared.Tally.{Tally}

-- what the run of the first n steps' commands, which are k, answers and leaves of the bytes l: all of them were carried out, as
-- many of them changed something as steps do by name (document 02, P6), none was refused, the registers and colours are what the
-- steps say by name, and bit 5 of the attribute index is as it was
pub record AfterStepsIn (l file : List ℕ) (n k : ℕ) (r : Result Tally StateError) (after : List ℕ) : Type 0 where
  pub ending : Ending
  pub answer : r ≡ Ok (tally k (steps_changing (steps_to file n) (named (view l))) ending)
  pub unrefused : of_ending ending ≡ returned 0 0
  pub as_named : named (view after) ≡ applied_all (steps_to file n) (named (view l))
  pub picture : (view after).picture ≡ (view l).picture

-- for every accepted file, every bytes that hold a state with open ports, and every number of its steps
pub record Demand3In : Type 0 where
  pub holds : (file : List ℕ) (m : ℕ) → checked file ≡ Ok m
      → (l : List ℕ) → length l ≡ whole → ports_open (named (view l)) ≡ true
      → (n : ℕ) → n ≤ m → (r : Result Tally StateError) (after : List ℕ)
      → r ≡ run_answer l (bytes_of_all (commands_to file m)) (begins file n) → Left l (ran_steps (view l) file m n).chip (spare l) after
      → AfterStepsIn l file n (begins file n) r after

-- the same for the short list, which leaves the chip that the plain list leaves
pub record Demand3ShortIn : Type 0 where
  pub holds : (file : List ℕ) (m : ℕ) → checked file ≡ Ok m
      → (l : List ℕ) → length l ≡ whole → ports_open (named (view l)) ≡ true
      → (n : ℕ) → n ≤ m → (r : Result Tally StateError) (after : List ℕ)
      → r ≡ run_answer l (bytes_of_all (short_to file m)) (short_begins file n) → Left l (ran_short (view l) file m n).chip (spare l) after
      → AfterStepsIn l file n (short_begins file n) r after × (view after ≡ (ran_steps (view l) file m n).chip)
