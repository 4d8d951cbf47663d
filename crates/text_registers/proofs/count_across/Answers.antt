-- By the group.
use native.Mathlib.Omega.{arith}
use Rattle.text_registers.specs.Line.{across}
use Rattle.text_registers.proofs.count_across.Goals as goal

pub returns-then-g : goal.returns-then-g
unfolding across
returns-then-g c = (rw c.if-g.true, omega arith)

pub returns-else-g : goal.returns-else-g
unfolding across
returns-else-g c = (rw c.if-g.false, omega arith)
