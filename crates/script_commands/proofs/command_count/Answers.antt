-- By the kind of step.
use Rattle.script_commands.specs.Known.{expanded_known}
use Rattle.script_commands.proofs.Knowing.{set_by_way, field_by_way}
use Rattle.script_commands.proofs.command_count.Goals as goal

-- SET
pub returns-in-Set : goal.returns-in-Set
unfolding expanded_known
returns-in-Set c = rw (c.in-Set.is, ← c.ports_of.ensures, set_by_way) (c.way_count.ensures _)

-- FIELD
pub returns-in-Field : goal.returns-in-Field
unfolding expanded_known
returns-in-Field c = rw (c.in-Field.is, ← c.ports_of-in-Field.ensures, field_by_way) (c.way_count-in-Field.ensures _)

-- COLOUR
pub returns-in-Colour : goal.returns-in-Colour
unfolding expanded_known
returns-in-Colour c = rw c.in-Colour.is
