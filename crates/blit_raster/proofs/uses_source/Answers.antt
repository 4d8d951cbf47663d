-- `raster::uses_source` meets its contract: the 256 codes are tried. Assumes nothing.
use mathlib.Core.Path.{refl}
use mathlib.Core.Bool.{not, beq}
use Prim.Native.Nat.{◌/◌, zero-le}
use lib.Bits.{bit_and, bit_xor}
use lib.Dec.{eqb}
use borrow.Author.Rules.{rules}
use Rattle.lists.specs.Scan.{every}
use Rattle.lists.proofs.Scan.{every-at}
use Rattle.blit_raster.specs.Raster.{uses_source}
use Rattle.blit_raster.proofs.Terms.{same}
use Rattle.blit_raster.proofs.uses_source.Goals as goal

pub returns : goal.returns
unfolding every uses_source
returns c =
    same _ _
    (every-at (λ x. beq (not (eqb (bit_and (bit_xor x (x / 4)) 0x33) 0)) (uses_source x)) 0 256 refl c.args.code zero-le (search rules))
