-- `blit::line::Line::piece` meets its contract: the pattern and the source are copied, and the bytes worked out from the copies.
-- Assumes nothing.
use Rattle.std.proofs.Common.{refl}
use Rattle.blit_raster.specs.Raster.{uses_source, uses_pattern}
use Rattle.blit.proofs.Ways.{piece_part, blended-taken}
use Rattle.blit.proofs.line.Line.piece.Goals as goal

pub returns : goal.returns
returns c =
    let l = c.args.self in
    let pattern = uses_pattern l.code in
    let m = c.args.mem.now in
    let tiled = rw c.pattern.ensures at c.tile.ensures in
    blended-taken l.code (uses_source l.code) pattern l.d l.s l.p l.w m _ refl
    (piece_part l.code pattern l.d l.s l.p l.w m _ _ _ _ tiled c.copy.ensures.copied c.blend_copied.ensures)
