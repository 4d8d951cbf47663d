use mathlib.Core.Path.{◌≡◌}
use native.Mathlib.Omega.{arith}
use lib.ListN.{length}
use Rattle.text_to_script.proofs.LineLaws.{lines_more, lines_feed, lines_end}
use Rattle.text_to_script.proofs.line_end.Goals as goal

pub returns-then-text-i-eq10 : goal.returns-then-text-i-eq10
returns-then-text-i-eq10 c = let l = c.loop-i in lines_feed c.args.text.now c.args.from l.i (omega arith) l.invariant (omega arith) c.if-text-i-eq10.true

pub loop-i-preserved : goal.loop-i-preserved
loop-i-preserved c = let l = c.loop-i in lines_more c.args.text.now c.args.from l.i (omega arith) l.invariant (omega arith) c.if-text-i-eq10.false

pub returns : goal.returns
returns c =
    let l = c.loop-i in
    let end : l.i ≡ length c.args.text.now = omega arith in
    rw end at (lines_end c.args.text.now c.args.from l.i (omega arith) l.invariant c.requires end)
