-- By the way the group is reached.
use native.Mathlib.Omega.{arith}
use Rattle.script_commands.proofs.Writing.{wrote_none, wrote_then}
use Rattle.script_commands.proofs.Output.put_by_way.Goals as goal

-- two such pairs
pub returns-in-Pairs : goal.returns-in-Pairs
returns-in-Pairs c = rw c.in-Pairs.is (wrote_then c.put_indexed-in-Pairs.ensures.wrote c.put_indexed-in-Pairs-2.ensures.wrote (omega arith))

-- by turns
pub returns-in-Turns : goal.returns-in-Turns
returns-in-Turns c = rw c.in-Turns.is (wrote_then c.put_turned.ensures.wrote c.put_data-in-Turns.ensures.wrote (omega arith))

-- no such group
pub returns-in-Nowhere : goal.returns-in-Nowhere
returns-in-Nowhere c = rw c.in-Nowhere.is (wrote_none _)
