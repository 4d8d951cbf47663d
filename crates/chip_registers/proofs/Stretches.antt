-- A stretch of indexes that are alike in a table, but for some: one test, computed over the stretch, gives the row at each.
-- The match of XR in src/rows.rt cites it for its highest ranges and for the gaps of its last arm, which lie too deep in the
-- table for the search.
use Prim.Native.Nat.{ℕ, zero, suc, ◌+◌, ◌≤◌, ◌<◌}
use native.Mathlib.Omega.{arith}
use mathlib.Core.Bool.{Bool, true, false, ◌&&◌, ◌||◌, true≢false}
use mathlib.Core.Path.{◌≡◌, refl, sym, ap₂}
use mathlib.Core.List.{List, [], ◌∷◌}
use lib.Dec.{eqb}
use borrow.Author.Tests.{eqb-true, eqb-false}
use Rattle.chip_registers.specs.Rows.{Register, row_in, listed}
use Rattle.std.proofs.lemmas.Bool.{and_parts}
use Rattle.std.specs.Prelude.{Option, Some, None}
use Rattle.chip_registers.specs.declared.Row.{Row}

abbrev pub same : Option Row → Option Row → Bool
same (Some row) (Some line) = eqb row.0 line.0 && eqb row.1 line.1
same (Some row) None = false
same None (Some row) = false
same None None = true

same-is : (r s : Option Row) → same r s ≡ true → r ≡ s
same-is (Some row) (Some line) t =
    let (p, q) = and_parts (eqb row.0 line.0) (eqb row.1 line.1) t in
    ap₂ (λ (w b : ℕ). Some (listed w b)) (eqb-true row.0 line.0 p) (eqb-true row.1 line.1 q)
same-is (Some row) None t = absurd (true≢false (sym t))
same-is None (Some row) t = absurd (true≢false (sym t))
same-is None None t = refl

abbrev pub has : ℕ → List ℕ → Bool
has i [] = false
has i (k ∷ ks) = eqb i k || has i ks

-- the index is none of the keys, the last first: what a match says of its other arms
abbrev pub NotIn : ℕ → List ℕ → Type 0
NotIn i [] = Unit {0}
NotIn i (k ∷ ks) = NotIn i ks × (i ≡ k → ⊥)

not_has : (i : ℕ) (ks : List ℕ) → NotIn i ks → has i ks ≡ true → ⊥
not_has i [] h t = true≢false (sym t)
not_has i (k ∷ ks) h t = go (eqb i k) refl (not_has i ks h.0) t
  where
    go : (b : Bool) → eqb i k ≡ b → (has i ks ≡ true → ⊥) → (b || has i ks) ≡ true → ⊥
    go true e f u = h.1 (eqb-true i k e)
    go false e f u = f u

-- the test: from lo on, n indexes have the row r, or are among the keys
abbrev pub alike : List Register → List ℕ → Option Row → ℕ → ℕ → Bool
alike rs ks r lo zero = true
alike rs ks r lo (suc n) = (same r (row_in rs lo) || has lo ks) && alike rs ks r (suc lo) n

at_first : (rs : List Register) (ks : List ℕ) (r : Option Row) (lo : ℕ) → NotIn lo ks → (z : Bool) → same r (row_in rs lo) ≡ z
    → (z || has lo ks) ≡ true → r ≡ row_in rs lo
at_first rs ks r lo h true e u = same-is r (row_in rs lo) e
at_first rs ks r lo h false e u = absurd (not_has lo ks h u)

pub otherwise : (rs : List Register) (ks : List ℕ) (r : Option Row) (lo n i : ℕ) → alike rs ks r lo n ≡ true → NotIn i ks → lo ≤ i → i < lo + n
    → r ≡ row_in rs i
otherwise rs ks r lo zero i t h a b = absurd (omega arith)
otherwise rs ks r lo (suc n) i t h a b =
    let (first, others) = and_parts (same r (row_in rs lo) || has lo ks) (alike rs ks r (suc lo) n) t in
    go (eqb lo i) refl first (λ a'. otherwise rs ks r (suc lo) n i others h a' (omega arith))
  where
    go : (z : Bool) → eqb lo i ≡ z → (same r (row_in rs lo) || has lo ks) ≡ true → (suc lo ≤ i → r ≡ row_in rs i) → r ≡ row_in rs i
    go true e u f = let p : i ≡ lo = sym (eqb-true lo i e) in rw p (at_first rs ks r lo (rw p at h) _ refl u)
    go false e u f = let ne : lo ≡ i → ⊥ = eqb-false lo i e in f (omega arith)
