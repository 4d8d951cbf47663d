-- Bit 1 of XR70.
use Rattle.chip.specs.Names.{ports_open}
use Rattle.chip.proofs.Chip.is_open.Goals as goal

pub returns : goal.returns
unfolding ports_open
returns c = rw c.byte.ensures
