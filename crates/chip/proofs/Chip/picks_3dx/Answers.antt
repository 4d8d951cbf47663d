-- Bit 0 of MSR.
use Rattle.std.proofs.Common.{div-one}
use Rattle.chip.specs.Names.{picks3_dx}
use Rattle.chip.proofs.Chip.picks_3dx.Goals as goal

pub returns : goal.returns
unfolding picks3_dx
returns c = rw (c.byte.ensures, div-one)
