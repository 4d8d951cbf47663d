-- `blit::line::Line::still` meets its contract: what each way fills in is what the line becomes. Assumes nothing.
use Rattle.std.proofs.Common.{sym, ◌∙◌, refl}
use Rattle.blit_raster.specs.Raster.{uses_source, uses_pattern}
use Rattle.blit.proofs.Ways.{copied, blended-plain}
use Rattle.blit.proofs.line.Line.still.Goals as goal

-- code CCh
pub returns-then-self-eq204 : goal.returns-then-self-eq204
returns-then-self-eq204 c =
    let l = c.args.self in
    copied l.code (uses_source l.code) (uses_pattern l.code) l.d l.s l.p l.w c.args.mem.now _ refl c.if-self-eq204.true c.move_whole.ensures.bytes c.move_whole.ensures.moved

-- in place, with no pattern
pub returns : goal.returns
returns c =
    let l = c.args.self in
    blended-plain l.code (uses_source l.code) (uses_pattern l.code) l.d l.s l.p l.w c.args.mem.now _ refl (sym c.pattern.ensures ∙ c.if-pattern.false) 0 c.args.pat.now c.blend_plain.ensures
