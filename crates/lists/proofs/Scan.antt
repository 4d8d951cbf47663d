-- Laws of `first_not` and `every`: a turn of the loop that computes each, what the answer says of every
-- place, and the answer from what holds at every place. The inductions are on the places left.
use mathlib.Core.Path.{◌≡◌, refl, sym, ap, ◌∙◌}
use mathlib.Core.Bool.{Bool, true, false, cond, ◌&&◌}
use Prim.Native.Nat.{ℕ, zero, suc, ◌+◌, ◌-◌, ◌≤◌, ◌<◌, zero-le}
use native.Mathlib.Nat.{add-zero, sub-zero}
use native.Mathlib.Decide.{ℕ_discrete}
use native.Mathlib.Omega.{arith}
use Rattle.lists.specs.Scan.{first_not, every}
use Rattle.std.proofs.lemmas.Bool.{and_parts}
use Rattle.std.specs.Cmp.Derive.{both_true}

-- ---- a turn of the search
module _ (t : ℕ → Bool) (i n : ℕ) where
  first_one : (m : ℕ) → n ≡ suc m → first_not t i n ≡ cond (t i) (first_not t (i + 1) m) i
  unfolding first_not
  first_one m e = rw e

  every_one : (m : ℕ) → n ≡ suc m → every t i n ≡ (t i && every t (i + 1) m)
  unfolding every
  every_one m e = rw e

pub first_more : (t : ℕ → Bool) (i n : ℕ) → i < n → t i ≡ true → first_not t i (n - i) ≡ first_not t (i + 1) (n - (i + 1))
first_more t i n h e =
    first_one t i (n - i) (n - (i + 1)) (omega arith)
    ∙ ap (λ (x : Bool). cond x (first_not t (i + 1) (n - (i + 1))) i) e

pub first_stop : (t : ℕ → Bool) (i n : ℕ) → i < n → t i ≡ false → first_not t i (n - i) ≡ i
first_stop t i n h e =
    first_one t i (n - i) (n - (i + 1)) (omega arith)
    ∙ ap (λ (x : Bool). cond x (first_not t (i + 1) (n - (i + 1))) i) e

pub first-none : (t : ℕ → Bool) (i n : ℕ) → n ≤ i → first_not t i (n - i) ≡ i
unfolding first_not
first-none t i n h = let e : n - i ≡ 0 = omega arith in rw e

-- the answer is one of the places, or their end
pub first_le : (t : ℕ → Bool) (i n : ℕ) → first_not t i n ≤ i + n
unfolding first_not
first_le t i zero = omega arith
first_le t i (suc n) = go (t i) (first_le t (i + 1) n)
  where
    go : (b : Bool) → first_not t (i + 1) n ≤ i + 1 + n → cond b (first_not t (i + 1) n) i ≤ i + suc n
    go true h = omega arith
    go false h = omega arith

-- ---- the answer from what holds at every place, and back
first_from : (t : ℕ → Bool) (n d i j : ℕ) → d + i ≡ n → i ≤ j → j ≤ n → ((p : ℕ) → i ≤ p → p < j → t p ≡ true) → (j < n → t j ≡ false)
    → first_not t i (n - i) ≡ j
first_from t n zero i j e hi hj before at = first-none t i n (omega arith) ∙ omega arith
first_from t n (suc d) i j e hi hj before at =
    go (ℕ_discrete i j) (λ w. first_from t n d (i + 1) j (omega arith) w hj (λ p hp hq. before p (omega arith) hq) at)
  where
    go : Dec (i ≡ j) → (i + 1 ≤ j → first_not t (i + 1) (n - (i + 1)) ≡ j) → first_not t i (n - i) ≡ j
    go (yes w) later = first_stop t i n (omega arith) (ap t w ∙ at (omega arith)) ∙ w
    go (no w) later = first_more t i n (omega arith) (before i (omega arith) (omega arith)) ∙ later (omega arith)

-- the first place at which the test fails is the place before which it holds, and at which it fails
pub first-is : (t : ℕ → Bool) (n j : ℕ) → j ≤ n → ((p : ℕ) → p < j → t p ≡ true) → (j < n → t j ≡ false) → first_not t 0 n ≡ j
first-is t n j h before at =
    ap (λ (m : ℕ). first_not t 0 m) (sym (sub-zero n))
    ∙ first_from t n n 0 j (add-zero n) zero-le h (λ p hp hq. before p hq) at

-- it fails at none of the places where it holds at each
pub first_end : (t : ℕ → Bool) (n : ℕ) → ((p : ℕ) → p < n → t p ≡ true) → first_not t 0 n ≡ n
first_end t n h = first-is t n n (omega arith) h (λ w. absurd (omega arith))

before_from : (t : ℕ → Bool) (n d i : ℕ) → d + i ≡ n → (p : ℕ) → i ≤ p → p < first_not t i (n - i) → p < n → t p ≡ true
before_from t n zero i e p hp hq hn = absurd (omega arith)
before_from t n (suc d) i e p hp hq hn = go (t i) refl (λ hp' hq'. before_from t n d (i + 1) (omega arith) p hp' hq' hn)
  where
    go : (b : Bool) → t i ≡ b → (i + 1 ≤ p → p < first_not t (i + 1) (n - (i + 1)) → t p ≡ true) → t p ≡ true
    go false q later = absurd (let z : first_not t i (n - i) ≡ i = first_stop t i n (omega arith) q in omega arith)
    go true q later = past (ℕ_discrete i p)
      where
        past : Dec (i ≡ p) → t p ≡ true
        past (yes w) = ap t (sym w) ∙ q
        past (no w) =
            let z : first_not t i (n - i) ≡ first_not t (i + 1) (n - (i + 1)) = first_more t i n (omega arith) q in
            later (omega arith) (omega arith)

-- before the answer the test holds
pub first-before : (t : ℕ → Bool) (n p : ℕ) → p < first_not t 0 n → t p ≡ true
first-before t n p h =
    let z : first_not t 0 (n - 0) ≡ first_not t 0 n = ap (λ (m : ℕ). first_not t 0 m) (sub-zero n) in
    before_from t n n 0 (add-zero n) p zero-le (omega arith) (omega (arith, first_le t 0 n))

pub end_first : (t : ℕ → Bool) (n : ℕ) → first_not t 0 n ≡ n → (p : ℕ) → p < n → t p ≡ true
end_first t n h p hn = first-before t n p (omega arith)

fails_from : (t : ℕ → Bool) (n d i : ℕ) → d + i ≡ n → first_not t i (n - i) < n → t (first_not t i (n - i)) ≡ false
fails_from t n zero i e h = absurd (let z = first-none t i n (omega arith) in omega arith)
fails_from t n (suc d) i e h = go (t i) refl (fails_from t n d (i + 1) (omega arith))
  where
    go : (b : Bool) → t i ≡ b → (first_not t (i + 1) (n - (i + 1)) < n → t (first_not t (i + 1) (n - (i + 1))) ≡ false)
        → t (first_not t i (n - i)) ≡ false
    go false q later = ap t (first_stop t i n (omega arith) q) ∙ q
    go true q later =
        let z : first_not t i (n - i) ≡ first_not t (i + 1) (n - (i + 1)) = first_more t i n (omega arith) q in
        ap t z ∙ later (omega arith)

-- at the answer it fails
pub first_fails : (t : ℕ → Bool) (n : ℕ) → first_not t 0 n < n → t (first_not t 0 n) ≡ false
first_fails t n h =
    let z : first_not t 0 (n - 0) ≡ first_not t 0 n = ap (λ (m : ℕ). first_not t 0 m) (sub-zero n) in
    ap t (sym z) ∙ fails_from t n n 0 (add-zero n) (omega arith)

-- ---- a test of every place
pub every_more : (t : ℕ → Bool) (i n : ℕ) → i < n → t i ≡ true → every t i (n - i) ≡ every t (i + 1) (n - (i + 1))
every_more t i n h e =
    every_one t i (n - i) (n - (i + 1)) (omega arith) ∙ ap (λ (x : Bool). x && every t (i + 1) (n - (i + 1))) e

pub every_stop : (t : ℕ → Bool) (i n : ℕ) → i < n → t i ≡ false → every t i (n - i) ≡ false
every_stop t i n h e =
    every_one t i (n - i) (n - (i + 1)) (omega arith) ∙ ap (λ (x : Bool). x && every t (i + 1) (n - (i + 1))) e

pub every-none : (t : ℕ → Bool) (i n : ℕ) → n ≤ i → every t i (n - i) ≡ true
unfolding every
every-none t i n h = let e : n - i ≡ 0 = omega arith in rw e

pub every_all : (t : ℕ → Bool) (i n : ℕ) → ((p : ℕ) → i ≤ p → p < i + n → t p ≡ true) → every t i n ≡ true
unfolding every
every_all t i zero h = refl
every_all t i (suc n) h =
    both_true (h i (omega arith) (omega arith)) (every_all t (i + 1) n (λ p hp hq. h p (omega arith) (omega arith)))

pub every-at : (t : ℕ → Bool) (i n : ℕ) → every t i n ≡ true → (p : ℕ) → i ≤ p → p < i + n → t p ≡ true
unfolding every
every-at t i zero e p hp hq = absurd (omega arith)
every-at t i (suc n) e p hp hq =
    let b = and_parts (t i) (every t (i + 1) n) e in
    go (ℕ_discrete i p) b.0 (λ hp'. every-at t (i + 1) n b.1 p hp' (omega arith))
  where
    go : Dec (i ≡ p) → t i ≡ true → (i + 1 ≤ p → t p ≡ true) → t p ≡ true
    go (yes w) here later = ap t (sym w) ∙ here
    go (no w) here later = later (omega arith)

-- it does not hold at each where it fails at one
pub every_false : (t : ℕ → Bool) (i n p : ℕ) → i ≤ p → p < i + n → t p ≡ false → every t i n ≡ false
every_false t i n p hp hq e = go (every t i n) refl
  where
    go : (b : Bool) → every t i n ≡ b → b ≡ false
    go true w = sym (every-at t i n w p hp hq) ∙ e
    go false w = refl
