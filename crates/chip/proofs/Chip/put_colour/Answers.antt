-- Each component by the mode.
use Rattle.chip.specs.Palette.{coloured}
use Rattle.chip.specs.View.{view}
use Rattle.chip.proofs.Chip.put_colour.Goals as goal

pub returns : goal.returns
unfolding coloured view
returns c = rw (c.by_mode.ensures, c.by_mode-2.ensures, c.by_mode-3.ensures, c.is_eight_bit-eight.ensures)
