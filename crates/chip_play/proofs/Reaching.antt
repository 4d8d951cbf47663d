-- The facts of each group that the argument rests on: where its ports lead, that a selected index is the one that its data port
-- works at, and that no write by name closes the ports. A new group adds its facts here; the argument in StepsSent goes by the
-- way a group is reached and stays.
use Prim.Native.Nat.{ℕ, zero, suc, ◌<◌}
use native.Mathlib.Omega.{arith}
use mathlib.Core.Bool.{Bool, true, false}
use mathlib.Core.Path.{◌≡◌, refl, ap, sym, ◌∙◌}
use lib.Dec.{eqb}
use borrow.Author.Tests.{eqb-true, ltb-true}
use Rattle.lists.specs.Bits.{bit, is_set}
use Rattle.chip_registers.specs.Extension.{xr_lines}
use Rattle.chip_registers.specs.Groups.{group_at, row_of, writable_of}
use Rattle.chip_registers.specs.Indexes.{index_kept}
use Rattle.chip_registers.proofs.WriteLaws.{locked_fewer}
use Rattle.chip_registers.proofs.IndexLaws.{fits_kept}
use Rattle.chip_registers.specs.declared.Group.{Group}
use Rattle.chip_registers.specs.declared.Group.TheVariants.{Cr, Xr, Ar}
use Rattle.chip_ports.specs.Ports.{ports, target}
use Rattle.chip_ports.specs.declared.Target.TheVariants.{Index, Data, Attribute, NotPicked}
use Rattle.chip.specs.State.{Named, index_of, with_index}
use Rattle.chip.specs.Names.{locked, received, ports_open, picks3_dx}
use Rattle.chip.specs.Palette.{coloured}
use Rattle.chip.proofs.IndexLaws.{index_same}
use Rattle.chip.proofs.NameLaws.{received_keeps_bit, coloured_keeps_register}
use Rattle.chip.specs.declared.Indexes.{Indexes}
use Rattle.script_steps.specs.Step.{names}
use Rattle.script_steps.proofs.Lawful.{names-single, names_attribute, names-none, named-fits}
use Rattle.script_commands.specs.Expansion.{ways}
use Rattle.script_commands.specs.declared.Ways.{Ways}
use Rattle.script_commands.specs.declared.Ways.TheVariants.{Pair, Pairs, Direct, Turns, Nowhere}

-- an index port and a data port that lead to a group while MSR bit 0 is b, and a pair that is not picked
abbrev pub On : Bool → Group → ℕ → ℕ → Type 0
On b g x p = (target b true x ≡ Index g) × (target b true p ≡ Data g) × (target b false p ≡ Data g)

abbrev pub Off : Bool → ℕ → ℕ → Type 0
Off b x p = (target b true x ≡ NotPicked) × (target b true p ≡ NotPicked) × (target b false p ≡ NotPicked)

-- a write to the group leaves MSR bit 0
abbrev pub Steady : Group → Type 0
Steady g = (n : Named) (i v : ℕ) → picks3_dx (received g n i v) ≡ picks3_dx n

-- the way of a group leads to it
abbrev pub Leads : Bool → Group → ℕ → Ways → Type 0
Leads b g i (Pair x p) = On b g x p × ((y : Indexes) → index_of g (with_index g y i) ≡ i)
Leads true g i (Pairs x p y q) = Off true x p × On true g y q × Steady g × ((z : Indexes) → index_of g (with_index g z i) ≡ i)
Leads false g i (Pairs x p y q) = On false g x p × Off false y q × Steady g × ((z : Indexes) → index_of g (with_index g z i) ≡ i)
Leads b g i (Direct w r) = (target b true w ≡ Data g) × (target b false r ≡ Data g) × ((y : Indexes) → index_of g y ≡ i)
Leads b g i (Turns p r) = (g ≡ Ar) × (target b true p ≡ Attribute) × (target b false p ≡ Attribute) × (target b false r ≡ Data Ar) × (i < 32)
Leads b g i Nowhere = ⊥

cr_steady : Steady Cr
unfolding picks3_dx received
cr_steady n i v = refl

false_true : false ≡ true → ⊥
false_true h = cc

-- an index that a step may name is kept as it is
selected : (group i : ℕ) → names group i ≡ true → (y : Indexes) → index_of (group_at group) (with_index (group_at group) y i) ≡ i
selected group i h y = index_same (group_at group) y i ∙ fits_kept (group_at group) i (named-fits group i h)

-- the nine groups, each by its number
pub leads : (b : Bool) (group i : ℕ) → names group i ≡ true → Leads b (group_at group) i (ways group)
unfolding target ports ways group_at index_kept
leads true zero i h = ((refl, refl, refl), (refl, refl, refl), cr_steady, selected 0 i h)
leads false zero i h = ((refl, refl, refl), (refl, refl, refl), cr_steady, selected 0 i h)
leads b (suc zero) i h = ((refl, refl, refl), selected 1 i h)
leads b (suc (suc zero)) i h = ((refl, refl, refl), selected 2 i h)
leads b (suc (suc (suc zero))) i h = ((refl, refl, refl), selected 3 i h)
leads b (suc (suc (suc (suc zero)))) i h = ((refl, refl, refl), selected 4 i h)
leads b (suc (suc (suc (suc (suc zero))))) i h = ((refl, refl, refl), selected 5 i h)
leads b (suc (suc (suc (suc (suc (suc zero)))))) i h = (refl, refl, λ y. sym (eqb-true i 0 (sym (names-single 6 i (omega arith) (omega arith)) ∙ h)))
leads b (suc (suc (suc (suc (suc (suc (suc zero))))))) i h = (refl, refl, λ y. sym (eqb-true i 0 (sym (names-single 7 i (omega arith) (omega arith)) ∙ h)))
leads b (suc (suc (suc (suc (suc (suc (suc (suc zero)))))))) i h =
    let low : i < 0x15 = ltb-true i 0x15 (sym (names_attribute i) ∙ h) in
    (refl, refl, refl, refl, omega arith)
leads b (suc (suc (suc (suc (suc (suc (suc (suc (suc group))))))))) i h =
    absurd (false_true (sym (names-none (suc (suc (suc (suc (suc (suc (suc (suc (suc group))))))))) i (omega arith)) ∙ h))

-- ---- the ports stay open
xr70_fixed : writable_of Xr 0x70 ≡ 0x00
unfolding row_of xr_lines
xr70_fixed = refl

pub open_received : (g : Group) (n : Named) (i v : ℕ) → ports_open (received g n i v) ≡ ports_open n
unfolding ports_open
open_received g n i v =
    ap (λ (b : ℕ). eqb b 1)
    (received_keeps_bit 1 g Xr n i v 0x70 (omega arith) (locked_fewer 1 Xr (locked Xr n) 0x70 (ap (bit 1) xr70_fixed)))

pub open_coloured : (n : Named) (e r g b : ℕ) → ports_open (coloured n e r g b) ≡ ports_open n
unfolding ports_open
open_coloured n e r g b = ap (is_set 1) (coloured_keeps_register Xr n e r g b 0x70)
