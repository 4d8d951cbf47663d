-- Each component by the mode.
use Rattle.chip.specs.Palette.{shown}
use Rattle.chip.proofs.Chip.shown.Goals as goal

pub returns : goal.returns
unfolding shown
returns c = rw (c.bright.ensures, c.bright-2.ensures, c.bright-3.ensures, c.stored-e.ensures, c.byte.ensures, c.is_eight_bit-eight.ensures)
