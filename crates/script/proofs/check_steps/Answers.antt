-- `check_steps` meets its contract: with each answer go the number and the value that the table has for it.
use Rattle.std.proofs.Common.{◌≡◌, Ok, arith}
use Rattle.script.specs.File.{steps_checked}
use Rattle.script.proofs.StepLaws.{steps_stop, steps_done, steps_answered}
use Rattle.script.proofs.check_steps.Goals as goal

-- a step that does not pass
pub returns-in_err-map_err-clause-result_value : goal.returns-in_err-map_err-clause-result_value
returns-in_err-map_err-clause-result_value c =
    let a = c.args in
    let v : c.from_residual.result ≡ steps_checked a.layout a.list.now 0 a.count = grind (arith, steps_stop) in
    (steps_answered a.layout a.list.now a.count v).1

-- all of them pass
pub returns-clause-result_value : goal.returns-clause-result_value
returns-clause-result_value c =
    let a = c.args in
    let v : Ok a.count ≡ steps_checked a.layout a.list.now 0 a.count = grind (arith, steps_done) in
    (steps_answered a.layout a.list.now a.count v).1
