-- How the text grows: nothing at first, and then one piece more, which finds its room where each is short. Where every piece is
-- empty so is the text, and where all but one are it is that one.
use Prim.Native.Nat.{ℕ, zero, suc, ◌+◌, ◌*◌, ◌≤◌, ◌<◌}
use native.Mathlib.Decide.{ℕ_discrete}
use native.Mathlib.Numerals.{add-one}
use native.Mathlib.Omega.{arith}
use mathlib.Core.Path.{◌≡◌, refl, sym, ap, ◌∙◌}
use mathlib.Core.List.{List, [], ◌++◌, append-nil}
use lib.ListN.{length}
use Rattle.lists.specs.Put.{Added}
use Rattle.lists.proofs.Put.{added_none, added_append, added_length}
use Rattle.text_registers.specs.Line.{joined}
use Rattle.text_registers.proofs.Lengths.{joined_most}

-- ---- pieces one behind the other
module _ (piece : ℕ → List ℕ) where
  pub joined_start : joined piece 0 ≡ []
  unfolding joined
  joined_start = refl

  pub joined_next : (k : ℕ) → joined piece (k + 1) ≡ joined piece k ++ piece k
  unfolding joined
  joined_next k = rw (add-one k)

  -- where each is empty, and where each but one is
  pub joined-none : (n : ℕ) → ((j : ℕ) → j < n → piece j ≡ []) → joined piece n ≡ []
  unfolding joined
  joined-none zero each = refl
  joined-none (suc n) each = rw (joined-none n (λ j h. each j (omega arith)), each n (omega arith))

  pub joined-one : (n k : ℕ) → k < n → ((j : ℕ) → j < n → (j ≡ k → ⊥) → piece j ≡ []) → joined piece n ≡ piece k
  unfolding joined
  joined-one zero k h each = absurd (omega arith)
  joined-one (suc n) k h each = go (ℕ_discrete k n) (λ w. joined-one n k w (λ j hj. each j (omega arith)))
    where
      go : Dec (k ≡ n) → (k < n → joined piece n ≡ piece k) → joined piece n ++ piece n ≡ piece k
      go (yes w) before = rw (joined-none n (λ j hj. each j (omega arith) (λ e. omega arith))) (ap piece (sym w))
      go (no w) before = rw (before (omega arith), each n (omega arith) (λ e. w (sym e))) (append-nil (piece k))

-- in an output: the first k of them stand there, from a place on
pub record Grown (piece : ℕ → List ℕ) (o : List ℕ) (at k : ℕ) (o₁ : List ℕ) (e₁ : ℕ) : Type 0 where
  pub stand : Added o at (joined piece k) o₁ e₁
  pub same : length o₁ ≡ length o

-- none of them, room for one more, and one more
pub added_start : {piece : ℕ → List ℕ} (o : List ℕ) (at : ℕ) → Grown piece o at 0 o at
added_start {piece} o at = record { stand = rw (joined_start piece) (added_none o at); same = refl }

module _ {piece : ℕ → List ℕ} (m : ℕ) (few : (j : ℕ) → length (piece j) ≤ m) {o : List ℕ} {at k : ℕ} {o₁ : List ℕ} {e₁ : ℕ}
    (g : Grown piece o at k o₁ e₁) (room : at + (k * m + m) ≤ length o) where
  pub room_next : e₁ + m ≤ length o₁
  room_next = omega (arith, g.stand.next, g.same, joined_most piece m few k)

  pub added_next : {o₂ : List ℕ} {e₂ : ℕ} → Added o₁ e₁ (piece k) o₂ e₂ → Grown piece o at (k + 1) o₂ e₂
  added_next {o₂} {e₂} one =
      let within : e₂ ≤ length o₁ = omega (arith, one.next, few k, room_next) in
      record {
        stand = rw (joined_next piece k) (added_append g.stand one (omega (arith, g.same)));
        same = added_length one within ∙ g.same;
      }
