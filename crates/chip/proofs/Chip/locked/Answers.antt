-- By the byte of CR11, or the picture.
use Rattle.chip.specs.Names.{locked}
use Rattle.chip.specs.View.{view}
use Rattle.chip.proofs.Chip.locked.Goals as goal

pub returns : goal.returns
unfolding locked view
returns c = rw (c.locked_by.ensures, c.byte.ensures)
