-- Closed ports, and where the port leads.
use Rattle.std.proofs.Common.{not, ap, sym, refl, ◌∙◌}
use Rattle.chip.specs.View.{view}
use Rattle.chip.proofs.Reached.{closed_write, reached_write}
use Rattle.chip.proofs.DifferLaws.{write_answered, unmoved}
use Rattle.chip.proofs.Chip.write.Goals as goal

pub returns-then-not-is_open : goal.returns-then-not-is_open
returns-then-not-is_open c =
    let a = c.args in
    let closed = closed_write _ _ c.is_open.ensures (ap not c.if-not-is_open.true) a.v in
    let (result, (answer, changed)) = write_answered (view a.self) a.port a.v c.untold.ensures.0 (c.untold.ensures.1 ∙ sym (unmoved _ _ refl)) closed in
    record { result_value = result; answer_value = answer; changed_value = changed }

pub returns : goal.returns
returns c =
    let a = c.args in
    let led = reached_write _ _ c.is_open.ensures (ap not c.if-not-is_open.false) c.picks_3dx.ensures c.leads_to.ensures a.v in
    let (result, (answer, changed)) = write_answered (view a.self) a.port a.v c.write_to.ensures.shown c.write_to.ensures.counted led in
    record { result_value = result; answer_value = answer; changed_value = changed }
