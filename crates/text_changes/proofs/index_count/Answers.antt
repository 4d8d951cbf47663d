-- By the group.
use native.Mathlib.Omega.{arith}
use Rattle.text_changes.specs.Changes.{indexes}
use Rattle.text_changes.proofs.index_count.Goals as goal

pub returns-then-g : goal.returns-then-g
unfolding indexes
returns-then-g c = (rw c.if-g.true, omega arith)

pub returns-else-g : goal.returns-else-g
unfolding indexes
returns-else-g c = (rw c.if-g.false, omega arith)
