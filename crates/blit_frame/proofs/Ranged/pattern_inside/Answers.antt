-- `blit_frame::Ranged::pattern_inside` meets its contract, where its first byte and its 64 do not tell, by the lines. The loop's
-- invariant: the answer from this line on is the whole answer. Assumes nothing.
use Rattle.std.proofs.Common.{◌<◌, sym, ◌∙◌, arith}
use Rattle.lists.proofs.Scan.{every_more, every_stop, every-none}
use Rattle.blit_frame.proofs.Areas.{pattern_all, pattern_begins_out, pattern_line_in, pattern_line-out, line_low-is, pattern_line-is}
use Rattle.blit_frame.proofs.Ranged.pattern_inside.Invariants.{line_in}
use Rattle.blit_frame.proofs.Ranged.pattern_inside.Goals as goal

-- the pattern begins outside
pub returns-then-self-t : goal.returns-then-self-t
returns-then-self-t c =
    let s = c.args.self in
    sym (pattern_begins_out _ s.t s.ranges.wide s.ranges.high c.if-self-t.true)

-- the 64 bytes lie in memory
pub returns-then-t-self : goal.returns-then-t-self
returns-then-t-self c = sym (pattern_all _ c.args.self.t c.if-t-self.true)

-- a line has one outside
pub returns-then-not-pattern_line_inside : goal.returns-then-not-pattern_line_inside
returns-then-not-pattern_line_inside c =
    let s = c.args.self in
    let t = s.t in
    let r = c.loop-r.r in
    let hr : r < t.height = c.loop-r-test.true in
    let low = c.line_low-d.ensures ∙ line_low-is _ t t.destination s.ranges s.small_memory s.ranges.close c.requires r hr in
    let eight = c.pattern_line-p.ensures ∙ pattern_line-is t (omega arith) r in
    let gone = rw (low, eight) at (c.pattern_line_inside.ensures.missing c.if-not-pattern_line_inside.true) in
    sym (c.loop-r.invariant ∙ every_stop (line_in s.n t) r t.height hr (pattern_line-out s.n t s.ranges.wide c.requires r hr gone))

pub loop-r-preserved : goal.loop-r-preserved
loop-r-preserved c =
    let s = c.args.self in
    let t = s.t in
    let r = c.loop-r.r in
    let hr : r < t.height = c.loop-r-test.true in
    let low = c.line_low-d.ensures ∙ line_low-is _ t t.destination s.ranges s.small_memory s.ranges.close c.requires r hr in
    let eight = c.pattern_line-p.ensures ∙ pattern_line-is t (omega arith) r in
    let here = rw (low, eight) at (c.pattern_line_inside.ensures.in_memory c.if-not-pattern_line_inside.false) in
    c.loop-r.invariant ∙ every_more (line_in s.n t) r t.height hr (pattern_line_in s.n t s.ranges.wide c.requires r hr here)

-- every line passed
pub returns : goal.returns
returns c =
    let s = c.args.self in
    sym (c.loop-r.invariant ∙ every-none (line_in s.n s.t) c.loop-r.r s.t.height (omega arith))
