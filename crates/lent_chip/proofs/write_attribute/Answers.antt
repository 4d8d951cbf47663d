-- By the turn.
use Rattle.std.proofs.Common.{sym, ◌∙◌, rules, eq-eqb, ne_eqb}
use Rattle.chip.proofs.AttributeLaws.{attribute_data, attribute_index_lem}
use Rattle.chip.proofs.DifferLaws.{aimed_differs_not}
use Rattle.lent_chip.specs.Layout.{view}
use Rattle.lent_chip.proofs.Holding.{turn_bit}
use Rattle.lent_chip.proofs.Words.{now_wrote, quietly}
use Rattle.std.specs.Prelude.{Ok}
use Rattle.lent_chip.proofs.write_attribute.Goals as goal

pub returns-then-state-eq1 : goal.returns-then-state-eq1
returns-then-state-eq1 c =
    let s = c.args in
    now_wrote c.set_attribute.ensures (sym (attribute_data (view s.state.now) s.v (turn_bit s.state.now ∙ eq-eqb _ _ c.if-state-eq1.true)))

pub returns : goal.returns
returns c =
    let s = c.args in
    now_wrote (quietly (Ok tt) c.aim_attribute.ensures (aimed_differs_not (view s.state.now) s.v)) (sym (attribute_index_lem (view s.state.now) s.v (turn_bit s.state.now ∙ ne_eqb _ _ c.if-state-eq1.false)))
