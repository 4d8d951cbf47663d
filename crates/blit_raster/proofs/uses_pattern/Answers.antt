-- `raster::uses_pattern` meets its contract: the 256 codes are tried. Assumes nothing.
use mathlib.Core.Path.{refl}
use mathlib.Core.Bool.{not, beq}
use Prim.Native.Nat.{◌/◌, zero-le}
use lib.Bits.{bit_and, bit_xor}
use lib.Dec.{eqb}
use borrow.Author.Rules.{rules}
use Rattle.lists.specs.Scan.{every}
use Rattle.lists.proofs.Scan.{every-at}
use Rattle.blit_raster.specs.Raster.{uses_pattern}
use Rattle.blit_raster.proofs.Terms.{same}
use Rattle.blit_raster.proofs.uses_pattern.Goals as goal

pub returns : goal.returns
unfolding every uses_pattern
returns c =
    same _ _
    (every-at (λ x. beq (not (eqb (bit_and (bit_xor x (x / 16)) 0x0f) 0)) (uses_pattern x)) 0 256 refl c.args.code zero-le (search rules))
