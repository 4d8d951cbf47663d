-- Room for the longest, and none.
use borrow.Author.Rules.{rules}
use native.Mathlib.Omega.{arith}
use Rattle.chip.specs.State.{named}
use Rattle.chip.specs.View.{view}
use Rattle.text.proofs.Adding.{none_in, in_added}
use Rattle.workbench_replies.specs.Reply.{reply_text}
use Rattle.workbench_replies.proofs.ReplyLaws.{length_reply}
use Rattle.workbench_replies.proofs.print.Goals as goal

pub returns-then-has_room : goal.returns-then-has_room
returns-then-has_room c = let a = c.args in in_added 8192 a.out.now a.at (reply_text (named (view a.chip)) a.reply) (omega (arith, c.has_room.ensures.more_bound.0 c.if-has_room.true)) (length_reply (named (view a.chip)) a.reply) c.add_reply.ensures

pub returns : goal.returns
returns c = let a = c.args in none_in 8192 a.out.now a.at (reply_text (named (view a.chip)) a.reply) (omega (arith, c.has_room.ensures.more_bound.1 c.if-has_room.false))
