-- Closed ports, and where the port leads.
use Rattle.std.proofs.Common.{not, ap, ◌∙◌}
use Rattle.chip.proofs.NumberLaws.{read-answered}
use Rattle.chip.proofs.Reached.{closed_read, reached-read}
use Rattle.chip.proofs.Chip.read.Goals as goal

pub returns-then-not-is_open : goal.returns-then-not-is_open
returns-then-not-is_open c =
    let (result, answer) = read-answered _ _ (c.gives.ensures ∙ closed_read _ _ c.is_open.ensures (ap not c.if-not-is_open.true)) in
    record { result_value = result; answer_value = answer }

pub returns : goal.returns
returns c =
    let led = reached-read _ _ c.is_open.ensures (ap not c.if-not-is_open.false) c.picks_3dx.ensures c.leads_to.ensures in
    let (result, answer) = read-answered _ _ (c.read_from.ensures ∙ led) in
    record { result_value = result; answer_value = answer }
