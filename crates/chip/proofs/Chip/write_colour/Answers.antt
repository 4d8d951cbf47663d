-- The entry at the index, in the state before and in the state that is left.
use Rattle.std.proofs.Common.{◌<◌, sym, ap, arith}
use Rattle.chip.specs.View.{view}
use Rattle.chip.specs.declared.Loading.{Loading}
use Rattle.chip.proofs.ViewLaws.{loading_shown}
use Rattle.chip.proofs.DifferLaws.{paldata_differs}
use Rattle.chip.proofs.Chip.write_colour.Goals as goal

pub returns-clause-changed_value : goal.returns-clause-changed_value
returns-clause-changed_value c =
    let a = c.args in
    let h : a.self.loading.index < 256 = omega (arith, c.well_formed.0) in
    rw (c.is_same.ensures, c.stored-after.ensures, c.stored-before.ensures, c.load-next.ensures)
    (sym (paldata_differs (view a.self) a.v a.self.loading.index (ap (λ (l : Loading). l.index) (loading_shown a.self)) h))
