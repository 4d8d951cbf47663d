-- Bit 5 beside the low five, which leave room for it.
use Rattle.std.proofs.Common.{arith}
use Rattle.chip_registers.specs.Indexes.{index_kept}
use Rattle.chip.specs.View.{view}
use Rattle.chip.proofs.Chip.attribute_index.Goals as goal

pub overflow_add-result : goal.overflow_add-result
unfolding index_kept view
overflow_add-result c = omega arith

pub returns-then-self : goal.returns-then-self
unfolding index_kept view
returns-then-self c = rw (c.index-low.ensures, c.if-self.true)

pub returns-else-self : goal.returns-else-self
unfolding index_kept view
returns-else-self c = let e = c.index-low.ensures in rw c.if-self.false (omega arith)
