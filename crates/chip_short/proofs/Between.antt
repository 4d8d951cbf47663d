-- What is known between two steps of the plain list: an index that the ports of a group were last sent stands (`Recalls`). It is
-- known of nothing before the first step, and a step keeps it: its own index stands behind it, and the others' are as they were.
use Prim.Native.Nat.{ℕ, ◌<◌, ◌≤◌}
use native.Mathlib.Decide.{dec_lt}
use native.Mathlib.Omega.{arith}
use mathlib.Core.Bool.{Bool, true, false, true≢false}
use mathlib.Core.Path.{◌≡◌, refl, sym, ap, ◌∙◌}
use mathlib.Core.List.{List, []}
use lib.Dec.{eqb}
use borrow.Author.Tests.{eqb-true, ne_eqb}
use Rattle.chip_registers.specs.Groups.{group_at, is}
use Rattle.chip_registers.specs.Indexes.{index_kept}
use Rattle.chip_registers.specs.declared.Group.{Group}
use Rattle.chip_registers.proofs.TableLaws.{number_grouped}
use Rattle.chip.specs.State.{index_byte, with_index}
use Rattle.chip.specs.declared.Indexes.{Indexes}
use Rattle.chip.proofs.IndexLaws.{byte-written, byte_other, index_turn}
use Rattle.script_steps.specs.declared.Step.{Step}
use Rattle.script_steps.specs.declared.Step.TheVariants.{Set, Field, Colour}
use Rattle.script_commands.specs.Expansion.{ways, expanded}
use Rattle.script_commands.specs.declared.Command.{Command}
use Rattle.script_commands.specs.declared.Ways.{Ways}
use Rattle.script_commands.specs.declared.Ways.TheVariants.{Pair, Pairs, Direct, Turns, Nowhere}
use Rattle.script_short.proofs.ShortLaws.{past}
use Rattle.script_short.proofs.Recalling.{Owns, owns, Recalled, RecalledFor, OfGroup, is_group, ways-none, sent-own, recalled_other, recalled-none}
use Rattle.chip_play.proofs.StepsSent.{aimed_by, indexes_after}
use Rattle.chip_short.proofs.Repeated.{StandsAt, StandsFor}

abbrev pub Recalls : List Command → Indexes → Type 0
Recalls before x = (g i : ℕ) → (z : Bool) × Recalled (ways g) z i before × (z ≡ true → StandsAt (group_at g) i x)

-- nothing is said where it is not known
unknown : {A : Type 0} → false ≡ true → A
unknown e = absurd (true≢false (sym e))

pub recalls-none : (x : Indexes) → Recalls [] x
recalls-none x g i = (false, recalled-none (ways g) i, unknown)

-- ---- a step's own index
own : (i j : ℕ) (x : Indexes) (g : Group) (w : Ways) (after : List Command) → Recalled w (eqb j i) j after
    → (z : Bool) × Recalled w z j after × (z ≡ true → StandsAt g j (aimed_by w g i x))
own i j x g (Pair y p) after r = (eqb j i, r, λ e. byte-written g x i ∙ ap (index_kept g) (sym (eqb-true j i e)))
own i j x g (Pairs y p z q) after r = (eqb j i, r, λ e. byte-written g x i ∙ ap (index_kept g) (sym (eqb-true j i e)))
own i j x g (Direct w r) after h = (false, tt, unknown)
own i j x g (Turns p r) after h = (false, tt, unknown)
own i j x g Nowhere after h = (false, tt, unknown)

-- ---- the others'
apart : (k g : ℕ) → k < 9 → g < 9 → (k ≡ g → ⊥) → is (group_at k) (group_at g) ≡ false
apart k g low small other = ne_eqb _ _ (λ e. other (sym (number_grouped k low) ∙ e ∙ number_grouped g small))

stays : (k g i : ℕ) (x : Indexes) → g < 9 → (k ≡ g → ⊥) → (w : Ways) → Owns k w → index_byte (group_at g) (aimed_by w (group_at k) i x) ≡ index_byte (group_at g) x
stays k g i x small other (Pair y p) (ix, ip, ox, op, low) = byte_other (group_at k) (group_at g) x i (apart k g low small other)
stays k g i x small other (Pairs y p z q) (ix, ip, iy, iq, ox, op, oy, oq, low, xy, yx) = byte_other (group_at k) (group_at g) x i (apart k g low small other)
stays k g i x small other (Direct w r) h = refl
stays k g i x small other (Turns p r) (ip, op, low) =
    index_turn (group_at g) (with_index (group_at k) x i) false ∙ byte_other (group_at k) (group_at g) x i (apart k g low small other)
stays k g i x small other Nowhere h = refl

step_stays : (s : Step) (g : ℕ) (x : Indexes) → g < 9 → (OfGroup s g → ⊥) → index_byte (group_at g) (indexes_after s x) ≡ index_byte (group_at g) x
step_stays (Set k i v) g x small other = stays k g i x small other (ways k) (owns k)
step_stays (Field k i v m) g x small other = stays k g i x small other (ways k) (owns k)
step_stays (Colour e r c b) g x small other = refl

-- ---- a step more
step_own : (s : Step) (g j : ℕ) (before : List Command) (x : Indexes) → OfGroup s g
    → (z : Bool) × Recalled (ways g) z j (past before (expanded s)) × (z ≡ true → StandsAt (group_at g) j (indexes_after s x))
step_own (Set k i v) g j before x is = rw (← is) (own i j x (group_at k) (ways k) _ (sent-own (Set k i v) k j before refl))
step_own (Field k i v m) g j before x is = rw (← is) (own i j x (group_at k) (ways k) _ (sent-own (Field k i v m) k j before refl))
step_own (Colour e r c b) g j before x is = absurd is

pub recalls_next : (s : Step) (before : List Command) (x : Indexes) → Recalls before x → Recalls (past before (expanded s)) (indexes_after s x)
recalls_next s before x h g j = go (is_group s g) (dec_lt g 9)
  where
    go : Dec (OfGroup s g) → Dec (g < 9) → (z : Bool) × Recalled (ways g) z j (past before (expanded s)) × (z ≡ true → StandsAt (group_at g) j (indexes_after s x))
    go (yes is) low = step_own s g j before x is
    go (no other) (yes small) =
        let (z, r, f) = h g j in
        (z, recalled_other s g z j before other r, λ e. step_stays s g x small other ∙ f e)
    go (no other) (no large) = let k : 9 ≤ g = omega arith in (false, rw (ways-none g k) tt, unknown)

-- so of a step it is known whether its index stands
pub recalls_for : (s : Step) (before : List Command) (x : Indexes) → Recalls before x → (z : Bool) × RecalledFor s z before × (z ≡ true → StandsFor s x)
recalls_for (Set g i v) before x h = h g i
recalls_for (Field g i v m) before x h = h g i
recalls_for (Colour e r c b) before x h = (false, tt, λ e. tt)
