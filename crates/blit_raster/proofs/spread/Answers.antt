-- `raster::spread` meets its contract: the bit is 0 or 1, and both are computed. Assumes nothing.
use Rattle.lists.specs.Bits.{bit}
use Rattle.blit_raster.proofs.Laws.{bit_small}
use Rattle.blit_raster.proofs.Terms.{copied}
use Rattle.blit_raster.proofs.spread.Goals as goal

pub returns : goal.returns
returns c = copied (bit c.args.k c.args.code) (bit_small c.args.k c.args.code)
