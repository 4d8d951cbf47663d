-- The number and the place are those of the answer.
use Rattle.std.specs.Prelude.{◌≡◌, Ok, Result}
use Rattle.std.proofs.Common.{ap, ◌∙◌, rules, arith}
use Rattle.chip_run.specs.declared.Tally.{Tally}
use Rattle.lent_chip.specs.declared.access.StateError.{StateError}
use Rattle.lent_run.specs.Run.{run_answer, of_lent_ran}
use Rattle.lent_run.proofs.Numbers.{lent_run_number}
use Rattle.lent_run.proofs.run.Goals as goal

pub returns-clause-result_value : goal.returns-clause-result_value
returns-clause-result_value c =
    let a = c.args in
    let answer : ◌≡◌ {A = Result Tally StateError} (Ok c.run_in.result) (run_answer a.state.now a.commands.now a.limit) = search rules in
    ap of_lent_ran answer ∙ lent_run_number a.state.now a.commands.now a.limit
