-- With nothing known a step's commands are those of its expansion; and with or without an index they are at most 8.
use Prim.Native.Nat.{ℕ, ◌≤◌}
use native.Mathlib.Omega.{arith}
use mathlib.Core.Bool.{Bool, true, false}
use mathlib.Core.Path.{◌≡◌, refl}
use lib.ListN.{length, length-append}
use Rattle.script_steps.specs.declared.Step.{Step}
use Rattle.script_steps.specs.declared.Step.TheVariants.{Set, Field, Colour}
use Rattle.script_commands.specs.Expansion.{ways, set_by, field_by, expanded}
use Rattle.script_commands.specs.Known.{set_known, field_known, expanded_known}
use Rattle.script_commands.specs.Working.{at_port, indexed, by_way}
use Rattle.script_commands.specs.declared.Data.{Data}
use Rattle.script_commands.specs.declared.Data.TheVariants.{Byte, Merged}
use Rattle.script_commands.specs.declared.Ways.{Ways}
use Rattle.script_commands.specs.declared.Ways.TheVariants.{Pair, Pairs, Direct, Turns, Nowhere}

pub set_by_way : (known : Bool) (w : Ways) (i v : ℕ) → set_known known w i v ≡ by_way known w i (Byte v)
set_by_way known (Pair x p) i v = refl
set_by_way known (Pairs x p y q) i v = refl
set_by_way known (Direct w r) i v = refl
set_by_way known (Turns p r) i v = refl
set_by_way known Nowhere i v = refl

pub field_by_way : (known : Bool) (w : Ways) (i k s : ℕ) → field_known known w i k s ≡ by_way known w i (Merged k s)
field_by_way known (Pair x p) i k s = refl
field_by_way known (Pairs x p y q) i k s = refl
field_by_way known (Direct w r) i k s = refl
field_by_way known (Turns p r) i k s = refl
field_by_way known Nowhere i k s = refl

set-unknown : (w : Ways) (i v : ℕ) → set_known false w i v ≡ set_by w i v
set-unknown (Pair x p) i v = refl
set-unknown (Pairs x p y q) i v = refl
set-unknown (Direct w r) i v = refl
set-unknown (Turns p r) i v = refl
set-unknown Nowhere i v = refl

field_unknown : (w : Ways) (i k s : ℕ) → field_known false w i k s ≡ field_by w i k s
field_unknown (Pair x p) i k s = refl
field_unknown (Pairs x p y q) i k s = refl
field_unknown (Direct w r) i k s = refl
field_unknown (Turns p r) i k s = refl
field_unknown Nowhere i k s = refl

pub nothing_known : (s : Step) → expanded_known false s ≡ expanded s
unfolding expanded expanded_known
nothing_known (Set g i v) = set-unknown (ways g) i v
nothing_known (Field g i v m) = field_unknown (ways g) i _ v
nothing_known (Colour e r g b) = refl

at_port_most : (w r : ℕ) (sent : Data) → length (at_port w r sent) ≤ 3
at_port_most w r (Byte v) = omega arith
at_port_most w r (Merged k s) = omega arith

indexed_most : (known : Bool) (x p i : ℕ) (sent : Data) → length (indexed known x p i sent) ≤ 4
indexed_most true x p i sent = omega (arith, at_port_most p p sent)
indexed_most false x p i sent = omega (arith, at_port_most p p sent)

by_way_most : (known : Bool) (w : Ways) (i : ℕ) (sent : Data) → length (by_way known w i sent) ≤ 8
by_way_most known (Pair x p) i sent = omega (arith, indexed_most known x p i sent)
by_way_most known (Pairs x p y q) i sent =
    omega (arith, length-append (indexed known x p i sent) (indexed known y q i sent), indexed_most known x p i sent, indexed_most known y q i sent)
by_way_most known (Direct w r) i sent = omega (arith, at_port_most w r sent)
by_way_most known (Turns p r) i sent = omega (arith, at_port_most p r sent)
by_way_most known Nowhere i sent = omega arith

-- "So a step has at most 8 commands and 32 bytes."
pub known_most : (known : Bool) (s : Step) → length (expanded_known known s) ≤ 8
unfolding expanded_known
known_most known (Set g i v) = rw (set_by_way known (ways g) i v) (by_way_most known (ways g) i (Byte v))
known_most known (Field g i v m) = rw (field_by_way known (ways g) i _ v) (by_way_most known (ways g) i (Merged _ v))
known_most known (Colour e r g b) = omega arith
