-- Reading and writing a step undo each other: the six bytes of a step are read as that step exactly where
-- it passes, and bytes that are read as a step are the six bytes of that step, which passes. Below: fewer
-- than six bytes are no step.
use mathlib.Core.Path.{sym, ◌≡◌, refl, ap, ◌∙◌}
use mathlib.Core.List.{List, [], ◌∷◌}
use mathlib.Core.Bool.{Bool, true, false, cond, ◌&&◌}
use Prim.Native.Nat.{ℕ, ◌+◌, ◌<◌}
use native.Mathlib.Omega.{arith}
use borrow.Author.Tests.{eqb-true, ne_eqb}
use lib.Dec.{eqb}
use lib.ListN.{length, get_or, take, drop, length-take, length-drop}
use Rattle.lists.proofs.Tests.{of_cond}
use Rattle.std.proofs.lemmas.Bool.{and_parts}
use Rattle.script_steps.specs.Step.{judged, bytes_of, shaped, if_shaped, step_of, read_at, step_read_number, shape_table, bytes_table}
use Rattle.script_steps.specs.declared.Step.{Step}
use Rattle.script_steps.specs.declared.Step.TheVariants.{Set, Field, Colour}
use Rattle.script_steps.specs.declared.Fault.TheVariants.{Unallowed}
use Rattle.script_steps.proofs.Lawful.{Passes, good_passes, judged-number}
use Rattle.std.specs.Prelude.{Result, Ok, Err}
use Rattle.script_steps.specs.declared.Fault.{Fault}

-- ---- what was written is read: the step where it passes, and else its refusal
pub read-written : (s : Step) → step_of (bytes_of s) ≡ judged s
unfolding step_of shaped bytes_of
read-written (Set g i v) = refl
read-written (Field g i v m) = refl
read-written (Colour n r g b) = refl

pub bytes-length : (s : Step) → length (bytes_of s) ≡ 6
unfolding bytes_of
bytes-length (Set g i v) = refl
bytes-length (Field g i v m) = refl
bytes-length (Colour n r g b) = refl

-- ---- what was read was written
shaped_good : (a b c d e f : ℕ) (s : Step) → shaped a b c d e f ≡ Ok s → bytes_of s ≡ a ∷ b ∷ c ∷ d ∷ e ∷ f ∷ []
unfolding shaped bytes_of
shaped_good a b c d e f s r =
    go (eqb a 1 && eqb e 0 && eqb f 0) refl (eqb a 2 && eqb f 0) refl (eqb a 3 && eqb f 0) refl
  where
    go : (x : Bool) → (eqb a 1 && eqb e 0 && eqb f 0) ≡ x → (y : Bool) → (eqb a 2 && eqb f 0) ≡ y → (z : Bool) → (eqb a 3 && eqb f 0) ≡ z
        → bytes_of s ≡ a ∷ b ∷ c ∷ d ∷ e ∷ f ∷ []
    go true ex y ey z ez =
        let t : Ok (Set b c d) ≡ Ok s = rw ex at r in
        let t' : Set b c d ≡ s = cc in
        let p = and_parts _ _ ex in
        let q = and_parts _ _ p.0 in
        let ea : a ≡ 1 = eqb-true _ _ q.0 in
        let ee : e ≡ 0 = eqb-true _ _ q.1 in
        let ef : f ≡ 0 = eqb-true _ _ p.1 in
        rw (← t', ea, ee, ef)
    go false ex true ey z ez =
        let t : Ok (Field b c d e) ≡ Ok s = rw (ex, ey) at r in
        let t' : Field b c d e ≡ s = cc in
        let p = and_parts _ _ ey in
        let ea : a ≡ 2 = eqb-true _ _ p.0 in
        let ef : f ≡ 0 = eqb-true _ _ p.1 in
        rw (← t', ea, ef)
    go false ex false ey true ez =
        let t : Ok (Colour b c d e) ≡ Ok s = rw (ex, ey, ez) at r in
        let t' : Colour b c d e ≡ s = cc in
        let p = and_parts _ _ ez in
        let ea : a ≡ 3 = eqb-true _ _ p.0 in
        let ef : f ≡ 0 = eqb-true _ _ p.1 in
        rw (← t', ea, ef)
    go false ex false ey false ez =
        absurd (let t : Err Unallowed ≡ Ok s = rw (ex, ey, ez) at r in let z : ◌≡◌ {A = ℕ} 0 1 = cc in omega arith)

-- bytes of another kind are none of the allowed
pub unshaped : (a b c d e f : ℕ) {why : Fault} → shaped a b c d e f ≡ Err why → why ≡ Unallowed
unfolding shaped
unshaped a b c d e f h = grind arith

if_shaped_lem : (r : Result Step Fault) (s : Step) → if_shaped r ≡ Ok s → (r ≡ Ok s) × Passes s
if_shaped_lem (Err why) s e = absurd (let z : ◌≡◌ {A = ℕ} 0 1 = cc in omega arith)
if_shaped_lem (Ok q) s e = let p = good_passes q s e in (ap Ok p.0, p.1)

pub written_read : (l : List ℕ) (s : Step) → step_of l ≡ Ok s → (bytes_of s ≡ l) × Passes s
unfolding step_of
written_read [] s e = absurd (let z : ◌≡◌ {A = ℕ} 0 1 = cc in omega arith)
written_read (a ∷ []) s e = absurd (let z : ◌≡◌ {A = ℕ} 0 1 = cc in omega arith)
written_read (a ∷ b ∷ []) s e = absurd (let z : ◌≡◌ {A = ℕ} 0 1 = cc in omega arith)
written_read (a ∷ b ∷ c ∷ []) s e = absurd (let z : ◌≡◌ {A = ℕ} 0 1 = cc in omega arith)
written_read (a ∷ b ∷ c ∷ d ∷ []) s e = absurd (let z : ◌≡◌ {A = ℕ} 0 1 = cc in omega arith)
written_read (a ∷ b ∷ c ∷ d ∷ x ∷ []) s e = absurd (let z : ◌≡◌ {A = ℕ} 0 1 = cc in omega arith)
written_read (a ∷ b ∷ c ∷ d ∷ x ∷ f ∷ []) s e =
    let p = if_shaped_lem (shaped a b c d x f) s e in
    (shaped_good a b c d x f s p.0, p.1)
written_read (a ∷ b ∷ c ∷ d ∷ x ∷ f ∷ y ∷ l) s e = absurd (
    let n : length (a ∷ b ∷ c ∷ d ∷ x ∷ f ∷ y ∷ l) ≡ 6 → ⊥ = λ w. omega arith in
    let t : Err Unallowed ≡ Ok s = rw (ne_eqb (length (a ∷ b ∷ c ∷ d ∷ x ∷ f ∷ y ∷ l)) 6 n) at e in
    let z : ◌≡◌ {A = ℕ} 0 1 = cc in
    omega arith)

-- ---- the number of what was read: 7 for bytes that are no step, else that of the step
shaped-number : (r : Result Step Fault) → step_read_number (if_shaped r) ≡ shape_table r
shaped-number (Ok s) = judged-number s
shaped-number (Err why) = refl

pub read_number : (l : List ℕ) → step_read_number (step_of l) ≡ bytes_table l
unfolding step_of bytes_table
read_number l =
    of_cond step_read_number (eqb (length l) 6) _ _
    ∙ ap (λ (n : ℕ). cond (eqb (length l) 6) n 7)
    (shaped-number (shaped (get_or l 0 0) (get_or l 1 0) (get_or l 2 0) (get_or l 3 0) (get_or l 4 0) (get_or l 5 0)))

-- ---- fewer than six bytes are no step
pub read_short : (l : List ℕ) (p : ℕ) → length l < p + 6 → read_at l p ≡ Err Unallowed
unfolding step_of
read_short l p h = rw (ne_eqb (length (take 6 (drop p l))) 6 short)
  where
    short : length (take 6 (drop p l)) ≡ 6 → ⊥
    short e = omega (arith, length-take 6 (drop p l), length-drop p l)

-- .. and their number is 7
pub short_number : (l : List ℕ) (p : ℕ) → length l < p + 6 → bytes_table (take 6 (drop p l)) ≡ 7
short_number l p h = sym (read_number (take 6 (drop p l))) ∙ ap step_read_number (read_short l p h)
