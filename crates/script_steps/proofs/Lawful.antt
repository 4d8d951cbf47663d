-- The definition of a step that passes is the right one. A legal step: which group and index a step may name,
-- case by case, a FIELD with mask 00h, and "no bit outside mask", bit by bit; the last goes by halving both
-- numbers. A step that can do nothing: an unlisted register, a listed one by its bits, and what does not
-- matter. What a step comes to, each answer exactly when.
use mathlib.Core.Path.{◌≡◌, refl, sym, ap, ◌∙◌}
use mathlib.Core.Bool.{Bool, true, false, cond, not, ◌&&◌, ◌||◌, and-true, and-false}
use Prim.Native.Nat.{ℕ, zero, suc, ◌*◌, ◌/◌, ◌%◌, ◌^◌, ◌≤◌, ◌<◌}
use native.Mathlib.Nat.{pow-succ', div-div-eq-div-mul}
use native.Mathlib.Omega.{arith}
use borrow.Author.Tests.{lt-ltb, le-ltb, ltb-true, eqb-true, eqb-false, eq-eqb, ne_eqb}
use lib.Dec.{ltb, eqb}
use lib.Bits.{bit_and, and_step, and_shr, and_zero_l}
use Rattle.lists.specs.Bits.{bit}
use Rattle.lists.specs.Scan.{every}
use Rattle.lists.proofs.Tests.{of_cond}
use Rattle.std.proofs.lemmas.Bool.{and_parts}
use Rattle.chip_registers.specs.Attribute.{ar_lines}
use Rattle.chip_registers.specs.CrtController.{cr_lines}
use Rattle.chip_registers.specs.Extension.{xr_lines}
use Rattle.chip_registers.specs.Groups.{group_at, is_indexed, row_of}
use Rattle.chip_registers.specs.Indexes.{fits}
use Rattle.chip_registers.proofs.IndexLaws.{misfit_unlisted}
use Rattle.script_steps.specs.Step.{names, within, legal, unwritable, idle, judged, step_read_number, step_table}
use Rattle.script_steps.specs.declared.Fault.TheVariants.{Unallowed, Idle}
use Rattle.script_steps.specs.declared.Step.{Step}
use Rattle.script_steps.specs.declared.Step.TheVariants.{Set, Field, Colour}
use Rattle.std.specs.Prelude.{Result, Ok, Err, Some, None}
use Rattle.chip_registers.specs.Rows.{listed}
use Rattle.script_steps.specs.declared.Fault.{Fault}

-- ---- document 02, P5: "a step whose index doesn't fit its group is refused", and of the first six groups every index that
-- fits is named
pub names-indexed : (group index : ℕ) → group < 6 → names group index ≡ fits (group_at group) index
unfolding names
names-indexed g i h =
    let k : g < 8 = omega arith in
    let m : g < 9 = omega arith in
    rw (lt-ltb _ _ m, lt-ltb _ _ k) (and-true (fits (group_at g) i))

pub names_sr : (index : ℕ) → names 1 index ≡ ltb index 0x08
unfolding group_at fits
names_sr i = names-indexed 1 i (omega arith)

pub names_gr : (index : ℕ) → names 2 index ≡ ltb index 0x10
unfolding group_at fits
names_gr i = names-indexed 2 i (omega arith)

-- ---- document 01, Scripts: "Groups are 0 to 7; for 6 and 7 the index is 0."
pub names-single : (group index : ℕ) → 6 ≤ group → group < 8 → names group index ≡ eqb index 0
unfolding names group_at fits
names-single g i h k = go (eqb g 6) refl
  where
    one : (i : ℕ) → (ltb i 1 && true) ≡ eqb i 0
    one zero = refl
    one (suc i) = let n : 1 ≤ suc i = omega arith in let z : suc i ≡ 0 → ⊥ = λ e. omega arith in rw (le-ltb _ _ n, ne_eqb _ _ z)

    go : (b : Bool) → eqb g 6 ≡ b → names g i ≡ eqb i 0
    go true e = let is : g ≡ 6 = eqb-true _ _ e in rw is (one i)
    go false e = let is : g ≡ 7 = omega (arith, eqb-false g 6 e) in rw is (one i)

-- ---- document 02, P1: "group 8 with an index above 14h is 7"
pub names_attribute : (index : ℕ) → names 8 index ≡ ltb index 0x15
unfolding names group_at fits
names_attribute i = go (ltb i 0x15) refl
  where
    go : (b : Bool) → ltb i 0x15 ≡ b → (ltb i 0x20 && b) ≡ b
    go true e = let h : i < 0x15 = ltb-true _ _ e in let k : i < 0x20 = omega arith in rw (lt-ltb _ _ k)
    go false e = and-false (ltb i 0x20)

pub names-none : (group index : ℕ) → 9 ≤ group → names group index ≡ false
unfolding names
names-none g i h = rw (le-ltb _ _ h)

-- a group and an index that a step may name: there is the group, and the index fits it
module _ (g i : ℕ) (named : names g i ≡ true) where
  pub named_group : g < 9
  unfolding names
  named_group = ltb-true _ _ (and_parts (ltb g 9) _ (and_parts (ltb g 9 && fits (group_at g) i) _ named).0).0

  pub named-fits : fits (group_at g) i ≡ true
  unfolding names
  named-fits = (and_parts (ltb g 9) _ (and_parts (ltb g 9 && fits (group_at g) i) _ named).0).1

-- ---- a FIELD with mask 00h is legal: it has no bit to say anything of
pub field_no_mask : (group index : ℕ) → legal (Field group index 0 0) ≡ names group index
unfolding legal
field_no_mask g i = and-true (names g i)

-- ---- "value has no bit outside mask": at every place the value's bit is at most the mask's
pub within_bits : (v m : ℕ) → within v m ≡ true → (k : ℕ) → bit k v ≤ bit k m
within_bits v m e k =
    let h : bit_and (v / 2 ^ k) (m / 2 ^ k) ≡ v / 2 ^ k = sym (and_shr v m k) ∙ ap (λ (n : ℕ). n / 2 ^ k) (eqb-true _ _ e) in
    omega (arith, and_step (v / 2 ^ k) (m / 2 ^ k))

half : (v k : ℕ) → bit k (v / 2) ≡ bit (suc k) v
half v k = ap (λ (n : ℕ). n % 2) (div-div-eq-div-mul v 2 (2 ^ k) ∙ ap (λ (n : ℕ). v / n) (sym (pow-succ' 2 k)))

same : (n v m : ℕ) → v < 2 ^ n → ((k : ℕ) → bit k v ≤ bit k m) → bit_and v m ≡ v
same zero v m h b = let z : v ≡ 0 = omega arith in rw z (and_zero_l m)
same (suc n) v m h b =
    let e : 2 ^ suc n ≡ 2 * 2 ^ n = pow-succ' 2 n in
    let s : v / 2 < 2 ^ n = omega arith in
    let ih : bit_and (v / 2) (m / 2) ≡ v / 2 = same n (v / 2) (m / 2) s (λ k. omega (arith, half v k, half m k, b (suc k))) in
    omega (arith, and_step v m, b 0)

pub bits_within : (n v m : ℕ) → v < 2 ^ n → ((k : ℕ) → bit k v ≤ bit k m) → within v m ≡ true
bits_within n v m h b = eq-eqb _ _ (same n v m h b)

-- ---- document 02, P2: "whose register has no writable bit, unlisted ones included"
pub unlisted_unwritable : (group index : ℕ) → row_of (group_at group) index ≡ None → unwritable group index ≡ true
unlisted_unwritable g i e = rw e

pub listed-unwritable : (group index w r : ℕ) → row_of (group_at group) index ≡ Some (listed w r) → unwritable group index ≡ eqb w 0
listed-unwritable g i w r e = rw e

-- an index that does not fit is not listed, so that P5 refuses no step that passed: without it such a step would be refused
-- with 11
pub misfit_unwritable : (group index : ℕ) → is_indexed (group_at group) ≡ true → fits (group_at group) index ≡ false → unwritable group index ≡ true
misfit_unwritable g i x h = unlisted_unwritable g i (misfit_unlisted (group_at g) i x h)

-- a SET by its register alone, and a FIELD like it, whatever its mask; a COLOUR never
pub idle-set : (group index value : ℕ) → idle (Set group index value) ≡ unwritable group index
unfolding idle
idle-set g i v = refl

pub idle_field : (group index value mask : ℕ) → idle (Field group index value mask) ≡ unwritable group index
unfolding idle
idle_field g i v m = refl

pub idle_colour : (entry red green blue : ℕ) → idle (Colour entry red green blue) ≡ false
unfolding idle
idle_colour e r g b = refl

-- "A volunteer typed XR70 for XR60"
pub xr60_and_xr70 : (unwritable 3 0x60 ≡ false) × (unwritable 3 0x70 ≡ true)
unfolding group_at row_of xr_lines
xr60_and_xr70 = (refl, refl)

-- "CR00 to CR07 stay allowed under protection, since protection is a matter of state"; so do AR00 to AR0F under the picture
pub protected_writable : every (λ i. not (unwritable 0 i)) 0x00 0x08 ≡ true
unfolding every group_at row_of cr_lines
protected_writable = refl

pub pictured_writable : every (λ i. not (unwritable 8 i)) 0x00 0x10 ≡ true
unfolding every group_at row_of ar_lines
pictured_writable = refl

-- ---- what a step comes to: 7, then 11, else it passes
pub record Passes (s : Step) : Type 0 where
  pub lawful : legal s ≡ true
  pub useful : idle s ≡ false

module _ (s : Step) where
  pub unallowed_first : legal s ≡ false → judged s ≡ Err Unallowed
  unfolding judged
  unallowed_first l = rw l

  pub idle-second : legal s ≡ true → idle s ≡ true → judged s ≡ Err Idle
  unfolding judged
  idle-second l i = rw (l, i)

  pub passes_good : Passes s → judged s ≡ Ok s
  unfolding judged
  passes_good p = rw (p.lawful, p.useful)

  -- its number: 7, then 11, else 0
  pub judged-number : step_read_number (judged s) ≡ step_table s
  unfolding judged
  judged-number = of_cond step_read_number (legal s) _ _ ∙ ap (λ (n : ℕ). cond (legal s) n 7) (of_cond step_read_number (idle s) (Err Idle) (Ok s))

-- .. and a step that is found good is the step, and passes
pub good_passes : (q s : Step) → judged q ≡ Ok s → (q ≡ s) × Passes s
good_passes q s e = go (legal q) refl (idle q) refl
  where
    none : {r : Result Step Fault} → r ≡ judged q → r ≡ Ok s
    none h = h ∙ e

    go : (a : Bool) → legal q ≡ a → (b : Bool) → idle q ≡ b → (q ≡ s) × Passes s
    go false l b i = absurd (let t : Err Unallowed ≡ Ok s = none (sym (unallowed_first q l)) in let z : ◌≡◌ {A = ℕ} 0 1 = cc in omega arith)
    go true l true i = absurd (let t : Err Idle ≡ Ok s = none (sym (idle-second q l i)) in let z : ◌≡◌ {A = ℕ} 0 1 = cc in omega arith)
    go true l false i =
        let t : Ok q ≡ Ok s = none (sym (passes_good q (record { lawful = l; useful = i }))) in
        let t' : q ≡ s = cc in
        (t', record { lawful = ap legal (sym t') ∙ l; useful = ap idle (sym t') ∙ i })

-- document 02, P5: "the misfit is 7", whatever else there is to say of the step
module _ (g i : ℕ) (misfit : fits (group_at g) i ≡ false) where
  misfit_unnamed : names g i ≡ false
  unfolding names
  misfit_unnamed = rw misfit (ap (λ (b : Bool). b && (ltb g 8 || ltb i 0x15)) (and-false (ltb g 9)))

  pub misfit_set : (v : ℕ) → judged (Set g i v) ≡ Err Unallowed
  unfolding legal
  misfit_set v = unallowed_first (Set g i v) misfit_unnamed

  pub misfit_field : (v m : ℕ) → judged (Field g i v m) ≡ Err Unallowed
  unfolding legal
  misfit_field v m = unallowed_first (Field g i v m) (rw misfit_unnamed)
