-- `raster::chosen` meets its contract: both bytes are computed. Assumes nothing.
use Rattle.std.proofs.Common.{◌≡◌, arith}
use Rattle.lists.specs.Bits.{bit}
use Rattle.blit_raster.specs.Raster.{number}
use Rattle.blit_raster.proofs.Laws.{bit_small}
use Rattle.blit_raster.proofs.chosen.Goals as goal

pub returns-then-code-k-eq1 : goal.returns-then-code-k-eq1
unfolding number
returns-then-code-k-eq1 c =
    let e : bit c.args.k c.args.code ≡ 1 = c.if-code-k-eq1.true in
    rw e

pub returns-else-code-k-eq1 : goal.returns-else-code-k-eq1
unfolding number
returns-else-code-k-eq1 c =
    let e : bit c.args.k c.args.code ≡ 0 = omega (arith, bit_small c.args.k c.args.code) in
    rw e
