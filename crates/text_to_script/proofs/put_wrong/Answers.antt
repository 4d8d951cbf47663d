-- Of another form, and a number.
use native.Mathlib.Omega.{arith}
use borrow.Author.Tests.{eq-eqb, ne_eqb}
use Rattle.text_to_script.specs.Complaint.{wrong}
use Rattle.text_to_script.proofs.put_wrong.Goals as goal

pub returns-then-number-eq0 : goal.returns-then-number-eq0
unfolding wrong
returns-then-number-eq0 c = rw (eq-eqb _ _ c.if-number-eq0.true) (c.add.ensures.here (omega arith))

pub returns : goal.returns
unfolding wrong
returns c = rw (ne_eqb _ _ c.if-number-eq0.false) (c.add_reason.ensures.here (omega arith))
