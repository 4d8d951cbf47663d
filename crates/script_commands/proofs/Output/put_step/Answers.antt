-- By the kind of step.
use native.Mathlib.Omega.{arith}
use Rattle.script_commands.specs.Known.{expanded_known}
use Rattle.script_commands.proofs.Knowing.{set_by_way, field_by_way}
use Rattle.script_commands.proofs.Writing.{wrote_then}
use Rattle.script_commands.proofs.Output.put_step.Goals as goal

-- SET
pub returns-in-Set : goal.returns-in-Set
unfolding expanded_known
returns-in-Set c = rw (c.in-Set.is, ← c.ports_of.ensures, set_by_way) c.put_by_way.ensures

-- FIELD
pub returns-in-Field : goal.returns-in-Field
unfolding expanded_known
returns-in-Field c = rw (c.in-Field.is, ← c.ports_of-in-Field.ensures, field_by_way) c.put_by_way-in-Field.ensures

-- COLOUR
pub returns-in-Colour : goal.returns-in-Colour
unfolding expanded_known
returns-in-Colour c =
    rw c.in-Colour.is
    (wrote_then c.put.ensures
    (wrote_then c.put-in-Colour.ensures (wrote_then c.put-in-Colour-2.ensures c.put-in-Colour-3.ensures (omega arith)) (omega arith)) (omega arith))
