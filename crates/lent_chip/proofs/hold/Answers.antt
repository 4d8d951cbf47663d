-- At blue the entry is stored; elsewhere one byte is.
use Rattle.std.proofs.Common.{not, sym, ap, arith, rules, ne_eqb}
use Rattle.chip.specs.Palette.{loaded}
use Rattle.chip.specs.View.{view as shown_by}
use Rattle.chip.proofs.DifferLaws.{same_self}
use Rattle.lent_chip.specs.Layout.{GREEN, RED, laid, view}
use Rattle.lent_chip.proofs.Holding.{as_it_is, now_holds, then_single}
use Rattle.lent_chip.proofs.hold.Goals as goal

pub returns-then-p-eq2-clause-holds : goal.returns-then-p-eq2-clause-holds
unfolding view shown_by laid loaded
returns-then-p-eq2-clause-holds c = now_holds c.put_colour.ensures.holds (rw c.if-p-eq2.true)

pub returns-then-p-eq2-clause-value : goal.returns-then-p-eq2-clause-value
unfolding view shown_by laid loaded
returns-then-p-eq2-clause-value c = rw c.if-p-eq2.true c.put_colour.ensures.value

pub returns-then-p-eq1-clause-holds : goal.returns-then-p-eq1-clause-holds
unfolding view shown_by laid loaded
returns-then-p-eq1-clause-holds c = now_holds (then_single GREEN _ (as_it_is c.told-state) (omega arith)) (rw c.if-p-eq1.true)

pub returns-then-p-eq1-clause-value : goal.returns-then-p-eq1-clause-value
unfolding view shown_by laid loaded
returns-then-p-eq1-clause-value c = rw c.if-p-eq1.true (sym (ap not (same_self _)))

pub returns-clause-holds : goal.returns-clause-holds
unfolding view shown_by laid loaded
returns-clause-holds c = now_holds (then_single RED _ (as_it_is c.told-state) (omega arith)) (simp (ne_eqb _ _ c.if-p-eq2.false, ne_eqb _ _ c.if-p-eq1.false))

pub returns-clause-value : goal.returns-clause-value
unfolding view shown_by laid loaded
returns-clause-value c = rw (ne_eqb _ _ c.if-p-eq2.false) (sym (ap not (same_self _)))
