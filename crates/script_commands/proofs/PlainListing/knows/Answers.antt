-- A step more, with nothing known.
use Rattle.std.proofs.Common.{ap, ◌++◌, ◌∙◌, sym}
use Rattle.script_commands.specs.Expansion.{commands_of}
use Rattle.script_commands.proofs.Expanding.{commands_append, commands_one}
use Rattle.script_commands.proofs.Knowing.{nothing_known}
use Rattle.script_commands.proofs.PlainListing.knows.Goals as goal

pub returns-clause-more : goal.returns-clause-more
returns-clause-more c = λ ss h. commands_append ss _ ∙ ap (◌++◌ (commands_of ss)) (commands_one _ ∙ sym (nothing_known _))
