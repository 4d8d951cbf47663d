-- No step has no command.
use Rattle.script_commands.proofs.Expanding.{commands_none}
use Rattle.script_commands.proofs.PlainListing.start.Goals as goal

pub returns-clause-none : goal.returns-clause-none
returns-clause-none c = commands_none
