-- One step of the short list. What was last sent to the index ports of its group decides it: a step is shortened to its commands
-- without the writes of its index, or is not shortened at all (`short_step`). For CR that takes that both its ports were last
-- sent the same, and so they were between any two steps: a step sends its index to all index ports of its group and nothing to
-- those of others (`sent-own`, `sent_other`). By the way a group is reached, once over the groups.
use Prim.Native.Nat.{ℕ, zero, suc, ◌-◌, ◌<◌, ◌≤◌}
use native.Mathlib.Decide.{ℕ_discrete}
use native.Mathlib.Omega.{arith}
use mathlib.Core.Bool.{Bool, true, false, cond}
use mathlib.Core.Path.{◌≡◌, refl, sym, ap, ◌∙◌}
use mathlib.Core.List.{List, []}
use lib.Dec.{eqb}
use borrow.Author.Tests.{eq-eqb, ne_eqb}
use Rattle.script_steps.specs.declared.Step.{Step}
use Rattle.script_steps.specs.declared.Step.TheVariants.{Set, Field, Colour}
use Rattle.script_commands.specs.Expansion.{ways, set_by, field_by, expanded}
use Rattle.script_commands.specs.Known.{set_known, field_known, expanded_known}
use Rattle.script_commands.specs.declared.Command.{Command}
use Rattle.script_commands.specs.declared.Ways.{Ways}
use Rattle.script_commands.specs.declared.Ways.TheVariants.{Pair, Pairs, Direct, Turns, Nowhere}
use Rattle.script_short.specs.Short.{is_index_port, last_sent, shortened}
use Rattle.script_short.specs.Memory.{index_in}
use Rattle.script_short.proofs.ShortLaws.{past}

-- the number of the group that an index port belongs to; 9 for every other port
abbrev pub owner : ℕ → ℕ
owner p =
    cond (eqb p 0x3B4) 0
    (cond (eqb p 0x3D4) 0
    (cond (eqb p 0x3C4) 1
    (cond (eqb p 0x3CE) 2
    (cond (eqb p 0x3D6) 3
    (cond (eqb p 0x3D0) 4
    (cond (eqb p 0x3D2) 5
    9))))))

-- ports of two owners are two
apart : (p q : ℕ) → (owner p ≡ owner q → ⊥) → eqb p q ≡ false
apart p q other = ne_eqb p q (λ e. other (ap owner e))

-- the index ports of a way are its group's own, and its other ports are none
abbrev pub Owns : ℕ → Ways → Type 0
Owns g (Pair x p) = (is_index_port x ≡ true) × (is_index_port p ≡ false) × (owner x ≡ g) × (owner p ≡ 9) × (g < 9)
Owns g (Pairs x p y q) =
    (is_index_port x ≡ true) × (is_index_port p ≡ false) × (is_index_port y ≡ true) × (is_index_port q ≡ false)
    × (owner x ≡ g) × (owner p ≡ 9) × (owner y ≡ g) × (owner q ≡ 9) × (g < 9) × (eqb x y ≡ false) × (eqb y x ≡ false)
Owns g (Direct w r) = (is_index_port w ≡ false) × (owner w ≡ 9)
Owns g (Turns p r) = (is_index_port p ≡ false) × (owner p ≡ 9) × (g < 9)
Owns g Nowhere = Unit {0}

pub ways-none : (g : ℕ) → 9 ≤ g → ways g ≡ Nowhere
unfolding ways
ways-none g h =
    rw (
      ne_eqb g 0 (λ e. omega arith),
      ne_eqb g 1 (λ e. omega arith),
      ne_eqb g 2 (λ e. omega arith),
      ne_eqb g 3 (λ e. omega arith),
      ne_eqb g 4 (λ e. omega arith),
      ne_eqb g 5 (λ e. omega arith),
      ne_eqb g 6 (λ e. omega arith),
      ne_eqb g 7 (λ e. omega arith),
      ne_eqb g 8 (λ e. omega arith),
    )

pub owns : (g : ℕ) → Owns g (ways g)
unfolding ways
owns zero = (refl, refl, refl, refl, refl, refl, refl, refl, omega arith, refl, refl)
owns (suc zero) = (refl, refl, refl, refl, omega arith)
owns (suc (suc zero)) = (refl, refl, refl, refl, omega arith)
owns (suc (suc (suc zero))) = (refl, refl, refl, refl, omega arith)
owns (suc (suc (suc (suc zero)))) = (refl, refl, refl, refl, omega arith)
owns (suc (suc (suc (suc (suc zero))))) = (refl, refl, refl, refl, omega arith)
owns (suc (suc (suc (suc (suc (suc zero)))))) = (refl, refl)
owns (suc (suc (suc (suc (suc (suc (suc zero))))))) = (refl, refl)
owns (suc (suc (suc (suc (suc (suc (suc (suc zero)))))))) = (refl, refl, omega arith)
owns (suc (suc (suc (suc (suc (suc (suc (suc (suc g))))))))) = rw (ways-none (suc (suc (suc (suc (suc (suc (suc (suc (suc g))))))))) (omega arith)) tt

-- whether a way's index ports were last sent i, which is one answer for both ports of CR
abbrev pub Recalled : Ways → Bool → ℕ → List Command → Type 0
Recalled (Pair x p) z i before = last_sent x i before ≡ z
Recalled (Pairs x p y q) z i before = (last_sent x i before ≡ z) × (last_sent y i before ≡ z)
Recalled (Direct w r) z i before = Unit {0}
Recalled (Turns p r) z i before = Unit {0}
Recalled Nowhere z i before = Unit {0}

-- ---- a step is shortened by what its index ports were last sent
module _ (g : ℕ) (i : ℕ) (before : List Command) where
  set_short : (w : Ways) (z : Bool) (v : ℕ) → Owns g w → Recalled w z i before → shortened before (set_by w i v) ≡ set_known z w i v
  unfolding shortened last_sent
  set_short (Pair x p) true v (ix, ip, ox, op, low) r = rw (ix, ip, r)
  set_short (Pair x p) false v (ix, ip, ox, op, low) r = rw (ix, ip, r)
  set_short (Pairs x p y q) true v (ix, ip, iy, iq, ox, op, oy, oq, low, xy, yx) (r, t) =
      let yp : eqb y p ≡ false = apart y p (λ e. omega arith) in rw (ix, ip, iy, iq, r, yp, yx, t)
  set_short (Pairs x p y q) false v (ix, ip, iy, iq, ox, op, oy, oq, low, xy, yx) (r, t) =
      let yp : eqb y p ≡ false = apart y p (λ e. omega arith) in rw (ix, ip, iy, iq, r, yp, yx, t)
  set_short (Direct w r) z v (iw, ow) h = rw iw
  set_short (Turns p r) z v (ip, op, low) h = rw ip
  set_short Nowhere z v o h = refl

  field_short : (w : Ways) (z : Bool) (k s : ℕ) → Owns g w → Recalled w z i before → shortened before (field_by w i k s) ≡ field_known z w i k s
  unfolding shortened last_sent
  field_short (Pair x p) true k s (ix, ip, ox, op, low) r = rw (ix, r)
  field_short (Pair x p) false k s (ix, ip, ox, op, low) r = rw (ix, r)
  field_short (Pairs x p y q) true k s (ix, ip, iy, iq, ox, op, oy, oq, low, xy, yx) (r, t) =
      let yp : eqb y p ≡ false = apart y p (λ e. omega arith) in rw (ix, iy, r, yp, yx, t)
  field_short (Pairs x p y q) false k s (ix, ip, iy, iq, ox, op, oy, oq, low, xy, yx) (r, t) =
      let yp : eqb y p ≡ false = apart y p (λ e. omega arith) in rw (ix, iy, r, yp, yx, t)
  field_short (Direct w r) z k s o h = refl
  field_short (Turns p r) z k s o h = refl
  field_short Nowhere z k s o h = refl

-- what a step's commands are decided by
abbrev pub RecalledFor : Step → Bool → List Command → Type 0
RecalledFor (Set group i v) z before = Recalled (ways group) z i before
RecalledFor (Field group i v m) z before = Recalled (ways group) z i before
RecalledFor (Colour e r g b) z before = Unit {0}

pub short_step : (s : Step) (z : Bool) (before : List Command) → RecalledFor s z before → shortened before (expanded s) ≡ expanded_known z s
unfolding expanded expanded_known shortened
short_step (Set group i v) z before h = set_short group i before (ways group) z v (owns group) h
short_step (Field group i v m) z before h = field_short group i before (ways group) z _ v (owns group) h
short_step (Colour e r g b) z before h = refl

-- ---- what a step sends: its index to its own index ports, and nothing to those of others
module _ (i j : ℕ) (before : List Command) where
  set_own : (g : ℕ) (w : Ways) (v : ℕ) → Owns g w → Recalled w (eqb j i) j (past before (set_by w i v))
  unfolding past last_sent
  set_own g (Pair x p) v (ix, ip, ox, op, low) =
      let xp : eqb x p ≡ false = apart x p (λ e. omega arith) in rw (xp, eq-eqb x x refl)
  set_own g (Pairs x p y q) v (ix, ip, iy, iq, ox, op, oy, oq, low, xy, yx) =
      let xp : eqb x p ≡ false = apart x p (λ e. omega arith) in
      let xq : eqb x q ≡ false = apart x q (λ e. omega arith) in
      let yq : eqb y q ≡ false = apart y q (λ e. omega arith) in
      (rw (xq, xy, xp, eq-eqb x x refl), rw (yq, eq-eqb y y refl))
  set_own g (Direct w r) v o = tt
  set_own g (Turns p r) v o = tt
  set_own g Nowhere v o = tt

  field_own : (g : ℕ) (w : Ways) (k s : ℕ) → Owns g w → Recalled w (eqb j i) j (past before (field_by w i k s))
  unfolding past last_sent
  field_own g (Pair x p) k s (ix, ip, ox, op, low) =
      let xp : eqb x p ≡ false = apart x p (λ e. omega arith) in rw (xp, eq-eqb x x refl)
  field_own g (Pairs x p y q) k s (ix, ip, iy, iq, ox, op, oy, oq, low, xy, yx) =
      let xp : eqb x p ≡ false = apart x p (λ e. omega arith) in
      let xq : eqb x q ≡ false = apart x q (λ e. omega arith) in
      let yq : eqb y q ≡ false = apart y q (λ e. omega arith) in
      (rw (xq, xy, xp, eq-eqb x x refl), rw (yq, eq-eqb y y refl))
  field_own g (Direct w r) k s o = tt
  field_own g (Turns p r) k s o = tt
  field_own g Nowhere k s o = tt

  -- another port that is some group's index port
  module _ (a : ℕ) (low : owner a < 9) where
    set_elsewhere : (g : ℕ) (w : Ways) (v : ℕ) → Owns g w → (owner a ≡ g → ⊥) → last_sent a j (past before (set_by w i v)) ≡ last_sent a j before
    unfolding past last_sent
    set_elsewhere g (Pair x p) v (ix, ip, ox, op, small) other =
        let ax : eqb a x ≡ false = apart a x (λ e. other (e ∙ ox)) in
        let ap : eqb a p ≡ false = apart a p (λ e. omega arith) in rw (ap, ax)
    set_elsewhere g (Pairs x p y q) v (ix, ip, iy, iq, ox, op, oy, oq, small, xy, yx) other =
        let ax : eqb a x ≡ false = apart a x (λ e. other (e ∙ ox)) in
        let ay : eqb a y ≡ false = apart a y (λ e. other (e ∙ oy)) in
        let ap : eqb a p ≡ false = apart a p (λ e. omega arith) in
        let aq : eqb a q ≡ false = apart a q (λ e. omega arith) in rw (aq, ay, ap, ax)
    set_elsewhere g (Direct w r) v (iw, ow) other = let aw : eqb a w ≡ false = apart a w (λ e. omega arith) in rw aw
    set_elsewhere g (Turns p r) v (ip, op, small) other = let ap : eqb a p ≡ false = apart a p (λ e. omega arith) in rw ap
    set_elsewhere g Nowhere v o other = refl

    field_elsewhere : (g : ℕ) (w : Ways) (k s : ℕ) → Owns g w → (owner a ≡ g → ⊥) → last_sent a j (past before (field_by w i k s)) ≡ last_sent a j before
    unfolding past last_sent
    field_elsewhere g (Pair x p) k s (ix, ip, ox, op, small) other =
        let ax : eqb a x ≡ false = apart a x (λ e. other (e ∙ ox)) in
        let ap : eqb a p ≡ false = apart a p (λ e. omega arith) in rw (ap, ax)
    field_elsewhere g (Pairs x p y q) k s (ix, ip, iy, iq, ox, op, oy, oq, small, xy, yx) other =
        let ax : eqb a x ≡ false = apart a x (λ e. other (e ∙ ox)) in
        let ay : eqb a y ≡ false = apart a y (λ e. other (e ∙ oy)) in
        let ap : eqb a p ≡ false = apart a p (λ e. omega arith) in
        let aq : eqb a q ≡ false = apart a q (λ e. omega arith) in rw (aq, ay, ap, ax)
    field_elsewhere g (Direct w r) k s (iw, ow) other = let aw : eqb a w ≡ false = apart a w (λ e. omega arith) in rw aw
    field_elsewhere g (Turns p r) k s (ip, op, small) other = let ap : eqb a p ≡ false = apart a p (λ e. omega arith) in rw ap
    field_elsewhere g Nowhere k s o other = refl

-- ---- the same of steps
-- a step's group; COLOUR has none
abbrev pub OfGroup : Step → ℕ → Type 0
OfGroup (Set group i v) g = group ≡ g
OfGroup (Field group i v m) g = group ≡ g
OfGroup (Colour e r c b) g = ⊥

pub is_group : (s : Step) (g : ℕ) → Dec (OfGroup s g)
is_group (Set k i v) g = ℕ_discrete k g
is_group (Field k i v m) g = ℕ_discrete k g
is_group (Colour e r c b) g = no (λ h. h)

-- the index ports of a step's group were last sent its index
pub sent-own : (s : Step) (g j : ℕ) (before : List Command) → OfGroup s g → Recalled (ways g) (eqb j (index_in s)) j (past before (expanded s))
unfolding expanded
sent-own (Set group i v) g j before is = rw (← is) (set_own i j before group (ways group) v (owns group))
sent-own (Field group i v m) g j before is = rw (← is) (field_own i j before group (ways group) _ v (owns group))
sent-own (Colour e r c b) g j before is = absurd is

-- another group's were sent nothing
pub sent_other : (s : Step) (a j : ℕ) (before : List Command) → owner a < 9 → (OfGroup s (owner a) → ⊥) → last_sent a j (past before (expanded s)) ≡ last_sent a j before
unfolding expanded past last_sent
sent_other (Set group i v) a j before low other = set_elsewhere i j before a low group (ways group) v (owns group) (λ e. other (sym e))
sent_other (Field group i v m) a j before low other = field_elsewhere i j before a low group (ways group) _ v (owns group) (λ e. other (sym e))
sent_other (Colour e r c b) a j before low other =
    let x : eqb a 0x3C8 ≡ false = apart a 0x3C8 (λ e. omega arith) in
    let y : eqb a 0x3C9 ≡ false = apart a 0x3C9 (λ e. omega arith) in
    rw (x, y)

-- so what is recalled of another group stays
pub recalled_other : (s : Step) (g : ℕ) (z : Bool) (j : ℕ) (before : List Command) → (OfGroup s g → ⊥)
    → Recalled (ways g) z j before → Recalled (ways g) z j (past before (expanded s))
recalled_other s g z j before other = go (ways g) (owns g)
  where
    stays : (a : ℕ) → owner a ≡ g → g < 9 → last_sent a j (past before (expanded s)) ≡ last_sent a j before
    stays a of small = sent_other s a j before (omega arith) (rw (sym of) at other)

    go : (w : Ways) → Owns g w → Recalled w z j before → Recalled w z j (past before (expanded s))
    go (Pair x p) (ix, ip, ox, op, low) h = stays x ox low ∙ h
    go (Pairs x p y q) (ix, ip, iy, iq, ox, op, oy, oq, low, xy, yx) (h, k) = (stays x ox low ∙ h, stays y oy low ∙ k)
    go (Direct w r) o h = tt
    go (Turns p r) o h = tt
    go Nowhere o h = tt

-- before the first command nothing was sent
pub recalled-none : (w : Ways) (j : ℕ) → Recalled w false j []
unfolding last_sent
recalled-none (Pair x p) j = refl
recalled-none (Pairs x p y q) j = (refl, refl)
recalled-none (Direct w r) j = tt
recalled-none (Turns p r) j = tt
recalled-none Nowhere j = tt
