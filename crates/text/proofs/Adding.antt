-- Bytes put one behind the other: what is promised where there is room, and where there is none; how long the texts of this
-- crate are.
use Prim.Native.Nat.{ℕ, ◌+◌, ◌≤◌, ◌<◌}
use native.Mathlib.Omega.{arith}
use mathlib.Core.Path.{◌≡◌, ◌∙◌}
use mathlib.Core.List.{List, ◌++◌}
use lib.ListN.{length, length-append}
use borrow.Author.Tests.{le-leb, lt-leb}
use Rattle.lists.specs.Put.{Added}
use Rattle.lists.proofs.Put.{added_length, added_append}
use Rattle.text.specs.Digits.{decimal}
use Rattle.text.specs.Refused.{refused, placed}
use Rattle.text.proofs.DigitLaws.{decimal_most}
use Rattle.text.specs.Adding.{AddedIn, with_added_in, behind_in}

-- ---- room
module _ (room : ℕ) (o : List ℕ) (at : ℕ) (x : List ℕ) where
  pub none_in : length o < at + room → AddedIn room o at x o at
  unfolding with_added_in behind_in
  none_in h = record {
    next = rw (lt-leb _ _ h);
    now = rw (lt-leb _ _ h);
    most = omega arith;
    within = λ k. k;
    here = λ k. absurd (omega arith);
  }

  pub in_added : at + room ≤ length o → length x ≤ room → {o₁ : List ℕ} {r : ℕ} → Added o at x o₁ r → AddedIn room o at x o₁ r
  unfolding with_added_in behind_in
  in_added h few a = record {
    next = a.next ∙ rw (le-leb _ _ h);
    now = a.now ∙ rw (le-leb _ _ h);
    most = omega arith;
    within = λ k. omega arith;
    here = λ k. a;
  }

-- ---- bytes behind others, where there is room for the longest
pub then_in : (room : ℕ) {o : List ℕ} {at : ℕ} {x : List ℕ} {o₁ : List ℕ} {e₁ : ℕ} {y : List ℕ} {o₂ : List ℕ} {e₂ : ℕ} → Added o at x o₁ e₁
    → AddedIn room o₁ e₁ y o₂ e₂ → e₁ + room ≤ length o → Added o at (x ++ y) o₂ e₂
then_in room {o} {at} {x} {o₁} {e₁} {y} {o₂} {e₂} s t h =
    let same : length o₁ ≡ length o = added_length s (omega arith) in
    let m : e₂ ≤ e₁ + room = t.most in
    added_append s (t.here (omega arith)) (omega arith)

-- ---- how long the line of a refusal and a place are
pub refused_most : (n : ℕ) → length (refused n) ≤ 29
refused_most n = let h : length (decimal n) ≤ 20 = decimal_most 20 n in simp length-append (omega arith)

pub placed_most : (word : List ℕ) (k : ℕ) → length (placed word k) ≤ length word + 22
placed_most word k = let h : length (decimal k) ≤ 20 = decimal_most 20 k in simp length-append (omega arith)
