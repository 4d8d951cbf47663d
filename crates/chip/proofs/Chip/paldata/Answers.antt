-- The component at the position, by the mode.
use Rattle.chip.specs.View.{view}
use Rattle.chip.proofs.Chip.paldata.Goals as goal

pub returns : goal.returns
unfolding view
returns c = rw (c.by_mode.ensures, c.component.ensures, c.stored-e.ensures, c.is_eight_bit.ensures)
