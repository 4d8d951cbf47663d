-- Three, one behind the other.
use native.Mathlib.Omega.{arith}
use Rattle.script_commands.proofs.Writing.{wrote_then}
use Rattle.script_commands.proofs.Output.put_turned.Goals as goal

pub returns-clause-wrote : goal.returns-clause-wrote
returns-clause-wrote c = wrote_then c.put.ensures (wrote_then c.put-2.ensures c.put_data.ensures.wrote (omega arith)) (omega arith)
