-- The number and place of a run on lent bytes are those of the table: on a state that of the run on the chip that they hold.
use Prim.Native.Nat.{ℕ}
use mathlib.Core.Bool.{cond}
use mathlib.Core.Path.{◌≡◌, ap, ◌∙◌}
use mathlib.Core.List.{List}
use Rattle.lists.specs.Numbers.{Returned, returned}
use Rattle.lists.proofs.Tests.{of_cond}
use Rattle.chip_run.specs.Run.{ran}
use Rattle.chip_run.proofs.RunNumbers.{run_number}
use Rattle.lent_chip.specs.Layout.{view}
use Rattle.lent_chip.specs.Accesses.{is_state}
use Rattle.lent_chip.specs.Numbers.{no_state}
use Rattle.lent_run.specs.Run.{answer_of, run_answer, of_lent_ran, lent_run_table}
use Rattle.std.specs.Prelude.{Result, Err}
use Rattle.lent_chip.specs.declared.access.StateError.{StateError}
use Rattle.lent_chip.specs.declared.access.StateError.TheVariants.{Length}
use Rattle.chip_run.specs.declared.Tally.{Tally}

pub lent_run_number : (l bytes : List ℕ) (limit : ℕ) → of_lent_ran (run_answer l bytes limit) ≡ lent_run_table l bytes limit
lent_run_number l bytes limit =
    of_cond of_lent_ran (is_state l) (answer_of (ran (view l) bytes limit)) (Err Length)
    ∙ ap (λ (x : Returned). cond (is_state l) x (returned no_state 0)) (run_number (view l) bytes limit)
