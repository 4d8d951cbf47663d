-- The step's text, and the line feed behind it.
use native.Mathlib.Omega.{arith}
use Rattle.text.proofs.Adding.{then_in}
use Rattle.text_steps.proofs.Lengths.{text_most}
use Rattle.text_steps.proofs.put_line.Goals as goal

pub returns : goal.returns
returns c = then_in 1 c.put_step-end.ensures c.add.ensures (omega (arith, text_most c.args.step))
