-- `blit_frame::pattern_line_inside` meets its contract: the byte of a column is that of the column modulo 8. Assumes nothing.
use Rattle.std.proofs.Common.{◌≡◌, ◌+◌, ◌%◌, ◌<◌, arith}
use Rattle.blit_frame.proofs.pattern_line_inside.Goals as goal

pub returns-clause-in_memory : goal.returns-clause-in_memory
returns-clause-in_memory c = λ e k h.
    let a = c.args in
    let tested : k % 8 < c.loop-c.c = omega arith in
    let same : (a.d + k % 8) % 8 ≡ (a.d + k) % 8 = omega arith in
    rw same at (c.loop-c.invariant (k % 8) tested)
