-- A step's commands where the index that they would write may be known to stand already: those of Expansion, without the writes
-- to index ports. Document 02, P8, whose shorter list is put together of these (crate `script_short`). With nothing known they
-- are the step's commands, as its own law says (proofs/Knowing).
use Rattle.std.specs.Prelude.{ℕ, ◌-◌, Bool, cond, List, [], ◌∷◌, ◌++◌}
use Rattle.script_steps.specs.declared.Step.{Step}
use Rattle.script_steps.specs.declared.Step.TheVariants.{Set, Field, Colour}
use Rattle.script_commands.specs.Expansion.{ways, turned, change}
use Rattle.script_commands.specs.declared.Command.{Command}
use Rattle.script_commands.specs.declared.Command.TheVariants.{Out}
use Rattle.script_commands.specs.declared.Ways.{Ways}
use Rattle.script_commands.specs.declared.Ways.TheVariants.{Pair, Pairs, Direct, Turns, Nowhere}

-- an index written to its port, and nothing where it is known to stand
abbrev pub index_write : Bool → ℕ → ℕ → List Command
index_write known x i = cond known [] (Out x i ∷ [])

abbrev pub known_set : Bool → ℕ → ℕ → ℕ → ℕ → List Command
known_set known x p i v = index_write known x i ++ (Out p v ∷ [])

abbrev pub set_known : Bool → Ways → ℕ → ℕ → List Command
set_known known (Pair x p) i v = known_set known x p i v
set_known known (Pairs x p y q) i v = known_set known x p i v ++ known_set known y q i v
set_known known (Direct w r) i v = Out w v ∷ []
set_known known (Turns p r) i v = turned p i ++ (Out p v ∷ [])
set_known known Nowhere i v = []

abbrev pub known_change : Bool → ℕ → ℕ → ℕ → ℕ → ℕ → List Command
known_change known x p i keep set = index_write known x i ++ change p p keep set

abbrev pub field_known : Bool → Ways → ℕ → ℕ → ℕ → List Command
field_known known (Pair x p) i keep set = known_change known x p i keep set
field_known known (Pairs x p y q) i keep set = known_change known x p i keep set ++ known_change known y q i keep set
field_known known (Direct w r) i keep set = change w r keep set
field_known known (Turns p r) i keep set = turned p i ++ change p r keep set
field_known known Nowhere i keep set = []

unfoldable pub expanded_known : Bool → Step → List Command
expanded_known known (Set group index value) = set_known known (ways group) index value
expanded_known known (Field group index value mask) = field_known known (ways group) index (0xFF - mask) value
expanded_known known (Colour entry red green blue) = Out 0x3C8 entry ∷ Out 0x3C9 red ∷ Out 0x3C9 green ∷ Out 0x3C9 blue ∷ []
