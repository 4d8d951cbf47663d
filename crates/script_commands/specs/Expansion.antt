-- The commands of a step, by the way its group is reached: document 01, "Commands", with the ports of its table in "Ports".
-- CR is reached through two pairs, 3B4h/3B5h and then again 3D4h/3D5h, since either may be picked. Group 8
-- is document 02's, P1.
use Rattle.std.specs.Prelude.{ℕ, ◌-◌, cond, List, [], ◌∷◌, ◌++◌, eqb}
use Rattle.script_steps.specs.declared.Step.{Step}
use Rattle.script_steps.specs.declared.Step.TheVariants.{Set, Field, Colour}
use Rattle.script_commands.specs.declared.Command.{Command}
use Rattle.script_commands.specs.declared.Command.TheVariants.{Out, In, Merge, OutAcc}
use Rattle.script_commands.specs.declared.Ways.{Ways}
use Rattle.script_commands.specs.declared.Ways.TheVariants.{Pair, Pairs, Direct, Turns, Nowhere}

-- how a group's registers are reached: CR, SR, GR, XR, FR, MR, MSR, PALMASK, AR
unfoldable pub ways : ℕ → Ways
ways group =
    cond (eqb group 0) (Pairs 0x3B4 0x3B5 0x3D4 0x3D5)
    (cond (eqb group 1) (Pair 0x3C4 0x3C5)
    (cond (eqb group 2) (Pair 0x3CE 0x3CF)
    (cond (eqb group 3) (Pair 0x3D6 0x3D7)
    (cond (eqb group 4) (Pair 0x3D0 0x3D1)
    (cond (eqb group 5) (Pair 0x3D2 0x3D3)
    (cond (eqb group 6) (Direct 0x3C2 0x3CC)
    (cond (eqb group 7) (Direct 0x3C6 0x3C6)
    (cond (eqb group 8) (Turns 0x3C0 0x3C1)
    Nowhere))))))))

-- an index written to a port that "takes index and data by turns" (document 02, P1; chapter 12 of the databook). Reading input
-- status 1 "returns the turn to index": both its ports are read, since either may be picked. Bit 5 of the index, which "decides
-- whether there is a picture", is kept. The next write is data.
abbrev pub turned : ℕ → ℕ → List Command
turned p i = In 0x3BA ∷ In 0x3DA ∷ In p ∷ Merge 0x20 i ∷ OutAcc p ∷ []

-- "SET: OUT index port, OUT data port."
abbrev pub indexed_set : ℕ → ℕ → ℕ → ℕ → List Command
indexed_set x p i v = Out x i ∷ Out p v ∷ []

abbrev pub set_by : Ways → ℕ → ℕ → List Command
set_by (Pair x p) i v = indexed_set x p i v
set_by (Pairs x p y q) i v = indexed_set x p i v ++ indexed_set y q i v
set_by (Direct w r) i v = Out w v ∷ []
set_by (Turns p r) i v = turned p i ++ (Out p v ∷ [])
set_by Nowhere i v = []

-- "FIELD: OUT index port, IN data port, MERGE, OUT accumulator to data port"
abbrev pub change : ℕ → ℕ → ℕ → ℕ → List Command
change w r keep set = In r ∷ Merge keep set ∷ OutAcc w ∷ []

abbrev pub indexed_change : ℕ → ℕ → ℕ → ℕ → ℕ → List Command
indexed_change x p i keep set = Out x i ∷ change p p keep set

abbrev pub field_by : Ways → ℕ → ℕ → ℕ → List Command
field_by (Pair x p) i keep set = indexed_change x p i keep set
field_by (Pairs x p y q) i keep set = indexed_change x p i keep set ++ indexed_change y q i keep set
field_by (Direct w r) i keep set = change w r keep set
field_by (Turns p r) i keep set = turned p i ++ change p r keep set
field_by Nowhere i keep set = []

-- a step's commands, "with keep = complement of mask"; "COLOUR: OUT 3C8h entry, then three OUT 3C9h."
unfoldable pub expanded : Step → List Command
expanded (Set group index value) = set_by (ways group) index value
expanded (Field group index value mask) = field_by (ways group) index (0xFF - mask) value
expanded (Colour entry red green blue) = Out 0x3C8 entry ∷ Out 0x3C9 red ∷ Out 0x3C9 green ∷ Out 0x3C9 blue ∷ []

-- the commands of steps, one step's behind the other's
unfoldable pub commands_of : List Step → List Command
commands_of [] = []
commands_of (s ∷ ss) = expanded s ++ commands_of ss
