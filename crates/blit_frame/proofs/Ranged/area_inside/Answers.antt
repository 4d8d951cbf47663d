-- `blit_frame::Ranged::area_inside` meets its contract: the first byte and the two outermost are tested. Assumes nothing.
use Rattle.std.proofs.Common.{◌≡◌, ◌-◌, ◌*◌, cond, sym}
use Rattle.blit_frame.proofs.Areas.{outermost_ahead, outermost_behind, begins-out}
use Rattle.blit_frame.proofs.Ranged.area_inside.Goals.{then-self, else-self, then-self-2, else-self-2}
use Rattle.blit_frame.proofs.Ranged.area_inside.Goals as goal

-- it begins outside
pub returns-then-self-a : goal.returns-then-self-a
returns-then-self-a c =
    let s = c.args.self in
    sym (begins-out s.n s.t c.args.a s.ranges.wide s.ranges.high c.if-self-a.true)

-- the outermost byte behind is in memory, so that the one ahead decides
pub returns-then-left-up : goal.returns-then-left-up
returns-then-left-up c =
    let s = c.args.self in
    let t = s.t in
    let w = t.width - 1 in
    let h = (t.height - 1) * c.args.a.span in
    let across : c.if-self.left ≡ record { 0 = cond t.leftward w 0; 1 = cond t.leftward 0 w } =
    elim c.if-self.branch [ then-self b ↦ rw (b.left-is, b.if-self.true) | else-self b ↦ rw (b.left-is, b.if-self.false) ] in
    let along : c.if-self-2.up ≡ record { 0 = cond t.upward h 0; 1 = cond t.upward 0 h } =
    elim c.if-self-2.branch [ then-self-2 b ↦ rw (b.up-is, b.if-self-2.true) | else-self-2 b ↦ rw (b.up-is, b.if-self-2.false) ] in
    rw (across, along) (outermost_ahead s.n t c.args.a s.ranges.wide s.ranges.high (rw (across, along) at c.if-left-up.true))

-- it is not
pub returns-else-left-up : goal.returns-else-left-up
returns-else-left-up c =
    let s = c.args.self in
    let t = s.t in
    let w = t.width - 1 in
    let h = (t.height - 1) * c.args.a.span in
    let across : c.if-self.left ≡ record { 0 = cond t.leftward w 0; 1 = cond t.leftward 0 w } =
    elim c.if-self.branch [ then-self b ↦ rw (b.left-is, b.if-self.true) | else-self b ↦ rw (b.left-is, b.if-self.false) ] in
    let along : c.if-self-2.up ≡ record { 0 = cond t.upward h 0; 1 = cond t.upward 0 h } =
    elim c.if-self-2.branch [ then-self-2 b ↦ rw (b.up-is, b.if-self-2.true) | else-self-2 b ↦ rw (b.up-is, b.if-self-2.false) ] in
    rw (across, along) (outermost_behind s.n t c.args.a s.ranges.wide s.ranges.high (rw (across, along) at c.if-left-up.false))
