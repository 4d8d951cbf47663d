-- One behind the other.
use native.Mathlib.Omega.{arith}
use Rattle.script_commands.proofs.Writing.{wrote_then}
use Rattle.script_commands.proofs.Output.put_indexed.Goals as goal

pub returns-clause-wrote : goal.returns-clause-wrote
returns-clause-wrote c = wrote_then c.put_index.ensures.wrote c.put_data.ensures.wrote (omega arith)
