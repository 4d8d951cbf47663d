-- `blit::line::Line::done` meets its contract: each way gives the definition's memory. Assumes nothing.
use Rattle.blit_raster.specs.Raster.{uses_source, uses_pattern}
use Rattle.blit.proofs.Ways.{still-done}
use Rattle.blit.proofs.line.Line.done.Goals as goal

-- nothing moves under the line
pub returns-then-source_still : goal.returns-then-source_still
returns-then-source_still c =
    let l = c.args.self in
    still-done l.code (uses_source l.code) (uses_pattern l.code) l.d l.s l.p l.w c.args.mem.now _ l.left c.requires.lies_in.destination (c.source_still.ensures c.if-source_still.true) (c.pattern_still.ensures c.if-not-pattern_still.false) c.still.ensures
