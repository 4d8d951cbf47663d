-- The run of commands on lent bytes: what it answers, and what it leaves, by crate `chip_run`'s definition of the run on a chip.
-- Document 01, "Commands"; document 02, P6.
use Rattle.std.specs.Prelude.{ℕ, ◌≡◌, cond, List, eqb, Result, Ok, Err}
use Rattle.lists.specs.Numbers.{Returned, returned}
use Rattle.chip.specs.Differ.{differ}
use Rattle.chip_run.specs.Run.{Ran, Did, ran, of_ending, run_table, tally}
use Rattle.chip_run.specs.declared.Reason.{Reason}
use Rattle.chip_run.specs.declared.Reason.TheVariants.{Form, Closed, Unlisted}
use Rattle.lent_chip.specs.Layout.{view, spare, Holds}
use Rattle.lent_chip.specs.Accesses.{is_state}
use Rattle.lent_chip.specs.Numbers.{no_state}
use Rattle.lent_run.specs.declared.Turn.{Turn}
use Rattle.lent_chip.specs.declared.access.StateError.{StateError}
use Rattle.lent_chip.specs.declared.access.StateError.TheVariants.{Length}
use Rattle.chip_run.specs.declared.Tally.{Tally}

-- the answer: how many commands were carried out, how many of these changed something and how the run ended, or that the bytes
-- are no state
abbrev pub answer_of : Ran → Result Tally StateError
answer_of r = Ok (tally r.count r.changing r.ending)

abbrev pub run_answer : List ℕ → List ℕ → ℕ → Result Tally StateError
run_answer l bytes limit = cond (is_state l) (answer_of (ran (view l) bytes limit)) (Err Length)

-- its number and value: those of the ending, or that the bytes are no state
abbrev pub of_lent_ran : Result Tally StateError → Returned
of_lent_ran (Ok t) = of_ending t.ending
of_lent_ran (Err Length) = returned no_state 0

-- the table of numbers for a run on lent bytes: that of the run on the chip that they hold
abbrev pub lent_run_table : List ℕ → List ℕ → ℕ → Returned
lent_run_table l bytes limit = cond (is_state l) (run_table (view l) bytes limit) (returned no_state 0)

-- the reason of a refused command by its number; law `reason_known` says that it is that one
abbrev pub reason_of : ℕ → Reason
reason_of n = cond (eqb n 10) Form (cond (eqb n 2) Closed Unlisted)

-- what an access's number says of its command
abbrev pub verdict_of : ℕ → Result (Unit {0}) Reason
verdict_of n = cond (eqb n 0) (Ok tt) (Err (reason_of n))

-- one command on a state: what is left of the bytes l is what it did, and it answers by its verdict and by whether something
-- differs
pub record DidIn (l : List ℕ) (d : Did) (m : List ℕ) (t : Turn) : Type 0 where
  pub holds : Holds m d.chip (spare l)
  pub verdict : t.verdict ≡ d.verdict
  pub acc : t.acc ≡ d.acc
  pub changed : t.changed ≡ differ (view l) d.chip

-- a run on a state
pub record RanIn (l : List ℕ) (r : Ran) (m : List ℕ) (x : Result Tally StateError) : Type 0 where
  pub holds : Holds m r.chip (spare l)
  pub answer : x ≡ answer_of r
