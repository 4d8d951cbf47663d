-- Each number of a transfer is given exactly when document 01, "Numbers returned", says: 3, then 5, then 4, which is exact in
-- both directions. Before that the laws of a test of every byte. Assumes nothing.
use mathlib.Core.Path.{◌≡◌, refl, sym, ap, ◌∙◌}
use mathlib.Core.Bool.{Bool, true, false, cond, not, ◌&&◌, ◌||◌, and-false, false≢true, true≢false}
use mathlib.Core.Logic.{◌↔◌}
use Prim.Native.Nat.{ℕ, ◌≤◌, ◌<◌, zero-le}
use native.Mathlib.Decide.{ℕ_discrete}
use native.Mathlib.Omega.{arith}
use lib.Dec.{ltb}
use borrow.Author.Tests.{ltb-false, le-ltb, eqb-false}
use Rattle.lists.specs.Scan.{first_not, every}
use Rattle.lists.proofs.Scan.{first_le, end_first, first_fails, every_all, every-at, every_false}
use Rattle.blit_raster.specs.Raster.{uses_source, uses_pattern}
use Rattle.blit_frame.specs.declared.Transfer.{Transfer}
use Rattle.memory.specs.declared.Refusal.{Refusal}
use Rattle.memory.specs.declared.Refusal.TheVariants.{Length, Range, Outside}
use Rattle.memory.specs.Memory.{length_allowed, answer_number, refusal_number}
use Rattle.blit_frame.specs.Frame.{pattern_place, in_range, every_byte, within, is_in_memory, accepted, judged, judged_number}
use Rattle.std.specs.Prelude.{Ok, Err}

-- ---- a test of every byte

module _ (t : Transfer) (f : ℕ → ℕ → Bool) where
  pub bytes_all : ((r c : ℕ) → r < t.height → c < t.width → f r c ≡ true) → every_byte t f ≡ true
  bytes_all h = every_all _ 0 t.height (λ r r₀ hr. every_all (f r) 0 t.width (λ c c₀ hc. h r c (omega arith) (omega arith)))

  module _ (r c : ℕ) (hr : r < t.height) (hc : c < t.width) where
    pub bytes-at : every_byte t f ≡ true → f r c ≡ true
    bytes-at e = every-at (f r) 0 t.width (every-at (λ r. every (f r) 0 t.width) 0 t.height e r zero-le (omega arith)) c zero-le (omega arith)

    pub bytes_false : f r c ≡ false → every_byte t f ≡ false
    bytes_false e = every_false _ 0 t.height r zero-le (omega arith) (every_false (f r) 0 t.width c zero-le (omega arith) e)

-- ---- when each number is given

-- a byte that the transfer uses lies outside the n bytes of memory: the destination's always count, the source's and the
-- pattern's only if the code depends on them
pub data UsedOutside (n : ℕ) (t : Transfer) : Type 0 where
  destination : (r c : ℕ) → r < t.height → c < t.width → within n t t.destination r c ≡ false → UsedOutside n t
  source : uses_source t.code ≡ true → (r c : ℕ) → r < t.height → c < t.width → within n t t.source r c ≡ false → UsedOutside n t
  pattern : uses_pattern t.code ≡ true → (r c : ℕ) → r < t.height → c < t.width → n ≤ pattern_place t r c → UsedOutside n t

record Fails (n : ℕ) (f : ℕ → Bool) : Type 0 where
  at : ℕ
  below : at < n
  fails : f at ≡ false

-- where a test does not hold at every place there is one at which it fails: that of `first_not`
one_fails : (n : ℕ) (f : ℕ → Bool) → every f 0 n ≡ false → Fails n f
one_fails n f e = go (ℕ_discrete (first_not f 0 n) n)
  where
    go : Dec (first_not f 0 n ≡ n) → Fails n f
    go (yes w) = absurd (true≢false (sym (every_all f 0 n (λ p l h. end_first f n w p (omega arith))) ∙ e))
    go (no w) = let h : first_not f 0 n < n = omega (arith, first_le f 0 n) in record { at = first_not f 0 n; below = h; fails = first_fails f n h }

-- the three tests of `is_in_memory`, and which of them fails
three : (a s b p c : Bool) (X : Type 0) → a && (not s || b) && (not p || c) ≡ false → (a ≡ false → X) → (s ≡ true → b ≡ false → X) → (p ≡ true → c ≡ false → X) → X
three false s b p c X e x y z = x refl
three true true false p c X e x y z = y refl refl
three true true true true c X e x y z = z refl e
three true false b true c X e x y z = z refl e
three true true true false c X e x y z = absurd (true≢false e)
three true false b false c X e x y z = absurd (true≢false e)

outside_found : (n : ℕ) (t : Transfer) → is_in_memory n t ≡ false → UsedOutside n t
unfolding is_in_memory
outside_found n t e =
    three (every_byte t (within n t t.destination)) (uses_source t.code) (every_byte t (within n t t.source)) (uses_pattern t.code)
    (every_byte t (λ r c. ltb (pattern_place t r c) n)) (UsedOutside n t) e
    (λ h. let l = one_fails t.height _ h in let k = one_fails t.width (within n t t.destination l.at) l.fails in destination l.at k.at l.below k.below k.fails)
    (λ u h. let l = one_fails t.height _ h in let k = one_fails t.width (within n t t.source l.at) l.fails in source u l.at k.at l.below k.below k.fails)
    (λ u h. let l = one_fails t.height _ h in let k = one_fails t.width (λ c. ltb (pattern_place t l.at c) n) l.fails in pattern u l.at k.at l.below k.below (ltb-false _ _ k.fails))

outside_counts : (n : ℕ) (t : Transfer) → UsedOutside n t → is_in_memory n t ≡ false
unfolding is_in_memory
outside_counts n t (destination r c hr hc e) = rw (bytes_false t (within n t t.destination) r c hr hc e)
outside_counts n t (source u r c hr hc e) =
    rw (bytes_false t (within n t t.source) r c hr hc e, u) (ap (λ (b : Bool). b && (not (uses_pattern t.code) || every_byte t (λ r c. ltb (pattern_place t r c) n))) (and-false (every_byte t (within n t t.destination))))
outside_counts n t (pattern u r c hr hc l) =
    rw (bytes_false t (λ r c. ltb (pattern_place t r c) n) r c hr hc (le-ltb _ _ l), u)
    (and-false (every_byte t (within n t t.destination) && (not (uses_source t.code) || every_byte t (within n t t.source))))

-- how the tests lead to the number
number : Bool → Bool → Bool → ℕ
number l r i = cond l (cond r (cond i 0 4) 5) 3

three_exactly : (l r i : Bool) → (number l r i ≡ 3) ↔ (l ≡ false)
unfolding number
three_exactly false r i = (λ e. refl, λ e. refl)
three_exactly true false i = (λ e. absurd (eqb-false 5 3 refl e), λ e. absurd (true≢false e))
three_exactly true true false = (λ e. absurd (eqb-false 4 3 refl e), λ e. absurd (true≢false e))
three_exactly true true true = (λ e. absurd (eqb-false 0 3 refl e), λ e. absurd (true≢false e))

five_exactly : (l r i : Bool) → (number l r i ≡ 5) ↔ ((l ≡ true) × (r ≡ false))
unfolding number
five_exactly false r i = (λ e. absurd (eqb-false 3 5 refl e), λ e. absurd (false≢true e.0))
five_exactly true false i = (λ e. (refl, refl), λ e. refl)
five_exactly true true false = (λ e. absurd (eqb-false 4 5 refl e), λ e. absurd (true≢false e.1))
five_exactly true true true = (λ e. absurd (eqb-false 0 5 refl e), λ e. absurd (true≢false e.1))

four_exactly : (l r i : Bool) → (number l r i ≡ 4) ↔ ((l ≡ true) × (r ≡ true) × (i ≡ false))
unfolding number
four_exactly false r i = (λ e. absurd (eqb-false 3 4 refl e), λ e. absurd (false≢true e.0))
four_exactly true false i = (λ e. absurd (eqb-false 5 4 refl e), λ e. absurd (false≢true e.1))
four_exactly true true false = (λ e. (refl, refl, refl), λ e. refl)
four_exactly true true true = (λ e. absurd (eqb-false 0 4 refl e), λ e. absurd (true≢false e.2))

zero_exactly : (l r i : Bool) → (number l r i ≡ 0) ↔ (l && r && i ≡ true)
unfolding number
zero_exactly false r i = (λ e. absurd (eqb-false 3 0 refl e), λ e. absurd (false≢true e))
zero_exactly true false i = (λ e. absurd (eqb-false 5 0 refl e), λ e. absurd (false≢true e))
zero_exactly true true false = (λ e. absurd (eqb-false 4 0 refl e), λ e. absurd (false≢true e))
zero_exactly true true true = (λ e. refl, λ e. refl)

numbered : (l r i : Bool) → answer_number (cond l (cond r (cond i (Ok tt) (Err Outside)) (Err Range)) (Err Length)) ≡ number l r i
unfolding number
numbered false r i = refl
numbered true false i = refl
numbered true true false = refl
numbered true true true = refl

-- no refusal has number 0
unrefused : (why : Refusal) → 0 ≡ refusal_number why → ⊥
unrefused Length e = eqb-false 0 3 refl e
unrefused Range e = eqb-false 0 5 refl e
unrefused Outside e = eqb-false 0 4 refl e

module _ (n : ℕ) (t : Transfer) where
  -- the number of the answer
  pub judged-number : answer_number (judged n t) ≡ judged_number n t
  unfolding judged judged_number number
  judged-number = numbered (length_allowed n) (in_range t) (is_in_memory n t)

  -- 3 is given exactly when the memory length is not allowed
  pub number_3_exactly : (judged_number n t ≡ 3) ↔ (length_allowed n ≡ false)
  unfolding judged_number number
  number_3_exactly = three_exactly (length_allowed n) (in_range t) (is_in_memory n t)

  -- 5 exactly when it is, and a transfer number is out of its range
  pub number_5_exactly : (judged_number n t ≡ 5) ↔ ((length_allowed n ≡ true) × (in_range t ≡ false))
  unfolding judged_number number
  number_5_exactly = five_exactly (length_allowed n) (in_range t) (is_in_memory n t)

  -- 4 exactly when neither is so, and a byte used lies outside memory
  pub number_4_exactly : (judged_number n t ≡ 4) ↔ ((length_allowed n ≡ true) × (in_range t ≡ true) × UsedOutside n t)
  unfolding judged_number number
  number_4_exactly =
      let e = four_exactly (length_allowed n) (in_range t) (is_in_memory n t) in
      (λ h. let g = e.0 h in (g.0, g.1, outside_found n t g.2), λ h. e.1 (h.0, h.1, outside_counts n t h.2))

  -- 0 exactly when it is accepted
  pub number_0_exactly : (judged_number n t ≡ 0) ↔ (accepted n t ≡ true)
  unfolding judged_number number
  number_0_exactly = zero_exactly (length_allowed n) (in_range t) (is_in_memory n t)

  -- a transfer that is done is accepted
  pub done-accepted : judged n t ≡ Ok tt → accepted n t ≡ true
  done-accepted e = number_0_exactly.0 (sym judged-number ∙ ap answer_number e)

  -- and one that is refused is not
  pub refused_unaccepted : (why : Refusal) → judged n t ≡ Err why → accepted n t ≡ false
  unfolding judged
  refused_unaccepted why = by (length_allowed n) (in_range t) (is_in_memory n t)
    where
      by : (l r i : Bool) → cond l (cond r (cond i (Ok (tt {0})) (Err Outside)) (Err Range)) (Err Length) ≡ Err why → l && r && i ≡ false
      by false r i e = refl
      by true false i e = refl
      by true true false e = refl
      by true true true e = absurd (unrefused why (ap answer_number e))
