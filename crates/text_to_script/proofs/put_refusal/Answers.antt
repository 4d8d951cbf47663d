-- The word and the number.
use native.Mathlib.Omega.{arith}
use Rattle.text.proofs.Adding.{then_in}
use Rattle.text_to_script.proofs.put_refusal.Goals as goal

pub returns : goal.returns
returns c = then_in 91 (c.add-what.ensures.here (omega arith)) (rw c.number.ensures at c.add_reason.ensures) (omega arith)
