-- `blit::lines::in_order` meets its contract: each turn is one more byte of the definition. Assumes nothing.
use Rattle.std.proofs.Common.{refl, add-one, rules}
use lib.ListN.{length-set}
use Rattle.blit.specs.Transfer.{in_turn}
use Rattle.blit.specs.Working.{line_byte}
use Rattle.blit.proofs.lines.in_order.Goals as goal

pub loop-c-init : goal.loop-c-init
unfolding in_turn
loop-c-init g c = (refl, refl)

pub loop-c-preserved : goal.loop-c-preserved
unfolding in_turn line_byte
loop-c-preserved g c =
    let l = c.loop-c in (
      simp length-set (search rules),
      rw (
        add-one,
        ← l.invariant.1,
        ← c.byte_at-i.ensures.0,
        ← c.byte_at-j.ensures.0,
        ← c.fetch-pb.ensures,
        ← c.fetch-sb.ensures,
        ← c.raster_byte.ensures,
      ),
    )
