-- After the end or a comment, too long, and any other.
use borrow.Author.Rules.{rules}
use borrow.Author.Tests.{lt-ltb, le-ltb, eq-eqb, ne_eqb}
use Rattle.workbench_input.specs.Lines.{request_in}
use Rattle.workbench_input.proofs.lines.request_in.Goals as goal
use Rattle.workbench_input.proofs.lines.request_in.Goals.{then-ended-via-then-ended, then-ended-via-else-ended+then-byte_at-eq35}

pub returns-then-ended : goal.returns-then-ended
unfolding request_in
returns-then-ended c = elim c.then-ended.branch [
  | then-ended-via-then-ended w ↦ rw w.if-ended.true
  | then-ended-via-else-ended+then-byte_at-eq35 w ↦ rw (w.if-ended.false, ← w.byte_at.ensures, eq-eqb _ _ w.if-byte_at-eq35.true)
]

pub returns-then-line-gt255 : goal.returns-then-line-gt255
unfolding request_in
returns-then-line-gt255 c = rw (c.if-ended.false, ← c.byte_at.ensures, ne_eqb _ _ c.if-byte_at-eq35.false, lt-ltb _ _ c.if-line-gt255.true)

pub returns : goal.returns
unfolding request_in
returns c = rw (c.if-ended.false, ← c.byte_at.ensures, ne_eqb _ _ c.if-byte_at-eq35.false, le-ltb _ _ c.if-line-gt255.false, ← c.tokens_of.ensures) c.request_of.ensures
