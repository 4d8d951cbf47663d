-- One store, or two after blue.
use Rattle.std.proofs.Common.{arith, ne_eqb}
use Rattle.chip.specs.View.{view as shown_by}
use Rattle.lent_chip.specs.Layout.{POSITION, INDEX, laid, view}
use Rattle.lent_chip.proofs.Holding.{as_it_is, now_holds, then_single}
use Rattle.lent_chip.proofs.move_on.Goals as goal

pub returns-then-p-eq2 : goal.returns-then-p-eq2
unfolding view shown_by laid
returns-then-p-eq2 c = now_holds (then_single POSITION 0 (then_single INDEX _ (as_it_is c.told-state) (omega arith)) (omega arith)) (rw c.if-p-eq2.true)

pub returns-then-p-eq1 : goal.returns-then-p-eq1
unfolding view shown_by laid
returns-then-p-eq1 c = now_holds (then_single POSITION 2 (as_it_is c.told-state) (omega arith)) (rw c.if-p-eq1.true)

pub returns-else-p-eq1 : goal.returns-else-p-eq1
unfolding view shown_by laid
returns-else-p-eq1 c = now_holds (then_single POSITION 1 (as_it_is c.told-state) (omega arith)) (simp (ne_eqb _ _ c.if-p-eq2.false, ne_eqb _ _ c.if-p-eq1.false))
