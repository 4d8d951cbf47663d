-- By the picture; the low five bits leave room for it.
use Rattle.std.proofs.Common.{sym, add-zero, arith, rules, eq-eqb, ne_eqb}
use Rattle.chip_registers.specs.Indexes.{index_kept}
use Rattle.lent_chip.proofs.Holding.{picture_bit, attribute_byte}
use Rattle.lent_chip.proofs.attribute_index.Goals as goal

pub overflow_add-result : goal.overflow_add-result
unfolding index_kept
overflow_add-result c = omega arith

pub returns-then-state-eq1 : goal.returns-then-state-eq1
returns-then-state-eq1 c = rw (picture_bit _, attribute_byte _, c.index_kept-low.ensures, eq-eqb _ _ c.if-state-eq1.true)

pub returns-else-state-eq1 : goal.returns-else-state-eq1
returns-else-state-eq1 c = rw (picture_bit _, attribute_byte _, c.index_kept-low.ensures, ne_eqb _ _ c.if-state-eq1.false) (sym (add-zero _))
