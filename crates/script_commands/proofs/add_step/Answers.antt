-- The step's commands, where there is room; what the output then holds is what was written through it.
use mathlib.Core.Path.{sym}
use native.Mathlib.Omega.{arith}
use borrow.Author.Rules.{rules}
use Rattle.script_commands.proofs.Writing.{wrote_added}
use Rattle.script_commands.proofs.add_step.Goals as goal

pub returns : goal.returns
returns c = wrote_added c.put_step.ensures (let n = sym c.put_step.ensures.same_reference in search rules) (omega arith)
