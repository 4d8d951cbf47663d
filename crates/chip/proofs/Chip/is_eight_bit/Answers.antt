-- Bit 7 of XR80.
use Rattle.chip.specs.Names.{eight_bit}
use Rattle.chip.proofs.Chip.is_eight_bit.Goals as goal

pub returns : goal.returns
unfolding eight_bit
returns c = rw c.byte.ensures
