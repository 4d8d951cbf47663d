-- By the turn.
use Rattle.std.proofs.Common.{sym, ap, ◌∙◌}
use Rattle.std.specs.Prelude.{Ok}
use Rattle.chip.specs.Access.{Wrote, untold}
use Rattle.chip.specs.Differ.{differ}
use Rattle.chip.specs.View.{view}
use Rattle.chip.specs.declared.Indexes.{Indexes}
use Rattle.chip.proofs.AttributeLaws.{attribute_data, attribute_index_lem}
use Rattle.chip.proofs.DifferLaws.{aimed_differs_not}
use Rattle.chip.proofs.ViewLaws.{indexes-shown}
use Rattle.chip.proofs.Chip.write_attribute.Goals as goal

pub returns-then-self : goal.returns-then-self
returns-then-self c =
    let a = c.args in
    let e = sym (attribute_data (view a.self) a.v (ap (λ (x : Indexes). x.turn) (indexes-shown a.self) ∙ c.if-self.true)) in
    record {
      result_value = c.set_attribute.ensures.shown ∙ e;
      changed_value = c.set_attribute.ensures.counted ∙ ap (λ (w : Wrote). differ (view a.self) w.chip) e;
    }

pub returns : goal.returns
returns c =
    let a = c.args in
    let e = sym (attribute_index_lem (view a.self) a.v (ap (λ (x : Indexes). x.turn) (indexes-shown a.self) ∙ c.if-self.false)) in
    record {
      result_value = c.untold.ensures.0 ∙ ap (untold (Ok tt)) c.aim_attribute.ensures ∙ e;
      changed_value = c.untold.ensures.1 ∙ sym (aimed_differs_not (view a.self) a.v) ∙ ap (λ (w : Wrote). differ (view a.self) w.chip) e;
    }
