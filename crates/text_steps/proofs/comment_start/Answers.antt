use Rattle.std.proofs.Common.{◌≡◌, length, arith}
use Rattle.text_steps.proofs.CommentLaws.{comment_here, comment_later, comment_none}
use Rattle.text_steps.proofs.comment_start.Goals as goal

pub returns-then-free-c : goal.returns-then-free-c
returns-then-free-c c =
    let l = c.loop-i in
    (omega arith, comment_here c.args.line.now l.i l.free l.invariant (omega arith) c.if-free-c.true)

pub loop-i-preserved : goal.loop-i-preserved
loop-i-preserved c = let l = c.loop-i in comment_later c.args.line.now l.i l.free l.invariant (omega arith) c.if-free-c.false

pub returns : goal.returns
returns c = let l = c.loop-i in let end : length c.args.line.now ≡ l.i = omega arith in (omega arith, rw end (comment_none c.args.line.now l.i l.free l.invariant (omega arith)))
