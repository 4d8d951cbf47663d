-- Laws of the sum of the words: a turn of the loop that adds them, two lists, and one byte changed. The
-- inductions go by two bytes.
use mathlib.Core.Path.{◌≡◌, refl, ap}
use mathlib.Core.List.{List, [], ◌∷◌, ◌++◌}
use Prim.Native.Nat.{ℕ, zero, suc, ◌+◌, ◌*◌, ◌/◌, ◌%◌, ◌≤◌, ◌<◌}
use native.Mathlib.Numerals.{add-one, add-two}
use native.Mathlib.Omega.{arith}
use lib.ListN.{length, drop, get_or, set, length-drop}
use mathlib.Core.Logic.{◌⊎◌, ⊎_elim, inl, inr}
use lib.Seq.{drop-cons}
use Rattle.script.specs.Block.{word, word_sum}

pub sum_more : (l : List ℕ) (i : ℕ) → i + 1 < length l → word_sum (drop i l) ≡ word l i + word_sum (drop (i + 2) l)
unfolding word_sum
sum_more l i h =
    let h₀ : i < length l = omega arith in
    let h₁ : suc i < length l = omega arith in
    rw (drop-cons l i 0 h₀, drop-cons l (suc i) 0 h₁, add-one, add-two)

pub sum_none : (l : List ℕ) (i : ℕ) → length l ≤ i + 1 → word_sum (drop i l) ≡ 0
unfolding word_sum
sum_none l i h = go (drop i l) (simp length-drop (omega arith))
  where
    go : (d : List ℕ) → length d ≤ 1 → word_sum d ≡ 0
    go [] p = refl
    go (x ∷ []) p = refl
    go (x ∷ y ∷ r) p = absurd (omega arith)

-- a turn of the loop that adds them modulo 65,536: the word at 2 * i goes from what is still to come to what was added
pub sum_turn : (l : List ℕ) (i s w : ℕ) → i < length l / 2 → w ≡ word l (2 * i)
    → ((s + w) % 65536 + word_sum (drop (2 * (i + 1)) l)) % 65536 ≡ (s + word_sum (drop (2 * i) l)) % 65536
sum_turn l i s w h e =
    let e' : 2 * i + 2 ≡ 2 * (i + 1) = omega arith in
    let d : word_sum (drop (2 * i + 2) l) ≡ word_sum (drop (2 * (i + 1)) l) = ap (λ (n : ℕ). word_sum (drop n l)) e' in
    omega (arith, sum_more l (2 * i) (omega arith))

-- the words of two lists, the first of an even length
pub sum_append : (m : ℕ) (l r : List ℕ) → length l ≡ m + m → word_sum (l ++ r) ≡ word_sum l + word_sum r
unfolding word_sum
sum_append zero [] r e = omega arith
sum_append zero (x ∷ l) r e = absurd (omega arith)
sum_append (suc m) [] r e = absurd (omega arith)
sum_append (suc m) (x ∷ []) r e = absurd (omega arith)
sum_append (suc m) (x ∷ y ∷ l) r e = omega (arith, sum_append m l r (omega arith))

pub sum_pair : (x y : ℕ) → word_sum (x ∷ y ∷ []) ≡ x + 256 * y
unfolding word_sum
sum_pair x y = omega arith

-- one byte changed: the sum moves by the difference, or by 256 times it
pub sum_set : (m : ℕ) (l : List ℕ) (i v : ℕ) → length l ≡ m + m → i < m + m
    → (word_sum (set l i v) + get_or l i 0 ≡ word_sum l + v) ⊎ (word_sum (set l i v) + 256 * get_or l i 0 ≡ word_sum l + 256 * v)
unfolding word_sum
sum_set zero l i v e h = absurd (omega arith)
sum_set (suc m) [] i v e h = absurd (omega arith)
sum_set (suc m) (x ∷ []) i v e h = absurd (omega arith)
sum_set (suc m) (x ∷ y ∷ l) zero v e h = inl (omega arith)
sum_set (suc m) (x ∷ y ∷ l) (suc zero) v e h = inr (omega arith)
sum_set (suc m) (x ∷ y ∷ l) (suc (suc i)) v e h =
    ⊎_elim (λ w. inl (omega arith)) (λ w. inr (omega arith)) (sum_set m l i v (omega arith) (omega arith))
