-- The register is told; the turn is none.
use Rattle.std.proofs.Common.{refl, ◌∙◌}
use Rattle.chip.specs.Attribute.{attribute_set}
use Rattle.chip.specs.View.{view}
use Rattle.chip.proofs.DifferLaws.{differ-named}
use Rattle.chip.proofs.Chip.set_attribute.Goals as goal

pub returns-clause-counted : goal.returns-clause-counted
returns-clause-counted c =
    let a = c.args in
    let i = c.index.ensures in
    rw i at c.write_data-w.ensures.changed_value ∙ differ-named (view a.self) _ (attribute_set (view a.self) a.v) refl
