-- `blit::line::Line::pieces` meets its contract: each turn is a piece of the definition's line. Assumes nothing.
use Rattle.std.proofs.Common.{◌+◌, ◌≤◌, refl, arith, rules}
use Rattle.blit_raster.specs.Raster.{uses_pattern}
use Rattle.blit.specs.Transfer.{in_turn}
use Rattle.blit.proofs.Ways.{piece_done}
use Rattle.blit.proofs.line.Line.pieces.Goals as goal

pub loop-c-init : goal.loop-c-init
unfolding in_turn
loop-c-init c = (search rules, refl, refl, refl, refl)

pub loop-c-preserved : goal.loop-c-preserved
loop-c-preserved c =
    let q = c.requires in
    let a = c.args.self in
    let l = c.loop-c in
    let n = c.least-n.result in
    let hc : l.c + n ≤ a.w = omega arith in (
      hc,
      search rules,
      piece_done a.code (uses_pattern a.code) a.left a.d a.s a.p a.w c.args.k c.args.mem.now l.mem _ l.c n c.piece_low-o.result
          l.invariant.1 q.lies_in.destination q.source_still q.pattern_still hc c.least-n.ensures.1 c.piece_low-o.ensures.0 c.piece_low-o.ensures.1
          l.invariant.2 c.piece.ensures,
      search rules,
      search rules,
    )
