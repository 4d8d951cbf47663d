-- A byte, or three commands, one behind the other.
use native.Mathlib.Omega.{arith}
use Rattle.script_commands.proofs.Writing.{wrote_then}
use Rattle.script_commands.proofs.Output.put_data.Goals as goal

pub returns-in-Merged-clause-wrote : goal.returns-in-Merged-clause-wrote
returns-in-Merged-clause-wrote c =
    rw c.in-Merged.is (wrote_then c.put-in-Merged.ensures (wrote_then c.put-in-Merged-2.ensures c.put-in-Merged-3.ensures (omega arith)) (omega arith))
