-- The count, whichever list it is.
use mathlib.Core.Path.{sym, ◌∙◌}
use Rattle.script.proofs.Checking.{accepted_table}
use Rattle.script_commands.proofs.step_commands_in.Goals as goal

pub returns-clause-number : goal.returns-clause-number
returns-clause-number g c = rw c.count_steps.ensures (sym (accepted_table _ _ (sym c.check_file.ensures.value ∙ c.in_ok-check_file.was) _))
