-- The loop's invariant: what was passed, and what stands before a comment in what is left, is what stands before the line's
-- comment.
use Rattle.std.proofs.Common.{◌≡◌, ◌++◌, true, take, drop}
use Rattle.text_steps.specs.Reading.{before_comment}
use Rattle.text_steps.proofs.comment_start.Given as goal

abbrev pub invariant-loop-i : goal.invariant-loop-i
invariant-loop-i l = take l.i l.line ++ before_comment l.free (drop l.i l.line) ≡ before_comment true l.line
