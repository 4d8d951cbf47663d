-- Nothing where it is known.
use Rattle.script_commands.proofs.Writing.{wrote_none}
use Rattle.script_commands.proofs.Output.put_index.Goals as goal

pub returns-else-not-known-clause-wrote : goal.returns-else-not-known-clause-wrote
returns-else-not-known-clause-wrote c = rw c.if-not-known.false (wrote_none _)
