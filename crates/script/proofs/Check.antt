-- There is exactly one check: of the 65,536 words, `check_word` alone makes the words of a block sum to 1. And
-- a block that has its sum loses it with any one byte changed, since the sum then moves by less than 65,536.
use mathlib.Core.Path.{◌≡◌, sym, ap, ◌∙◌}
use mathlib.Core.List.{List, [], ◌∷◌, ◌++◌}
use mathlib.Core.Bool.{false}
use mathlib.Core.Logic.{⊎_elim}
use Prim.Native.Nat.{ℕ, ◌+◌, ◌-◌, ◌*◌, ◌/◌, ◌%◌, ◌<◌}
use native.Mathlib.Decide.{ℕ_discrete}
use native.Mathlib.Omega.{arith}
use borrow.Author.Tests.{eq-eqb, ne_eqb}
use lib.Dec.{eqb}
use lib.ListN.{length, take, drop, get_or, set, take-append-drop, drop_of_length-le}
use lib.Seq.{drop-cons, length-take-le}
use Rattle.script.specs.Block.{word_sum, check_legal, check_word, with_check}
use Rattle.script.proofs.Sum.{sum_append, sum_pair, sum_set}

-- ---- one check
sum_check : (b : List ℕ) (lo hi : ℕ) → length b ≡ 510 → word_sum (b ++ (lo ∷ hi ∷ [])) ≡ word_sum b + (lo + 256 * hi)
sum_check b lo hi h = sum_append 255 b (lo ∷ hi ∷ []) h ∙ ap (λ (n : ℕ). word_sum b + n) (sum_pair lo hi)

-- a check makes the sum 1 exactly where it is `check_word`
pub check_exactly : (b : List ℕ) (lo hi : ℕ) → length b ≡ 510 → lo < 256 → hi < 256
    → check_legal (b ++ (lo ∷ hi ∷ [])) ≡ eqb (lo + 256 * hi) (check_word b)
check_exactly b lo hi h hl hh = go (ℕ_discrete (lo + 256 * hi) (check_word b))
  where
    s : word_sum (b ++ (lo ∷ hi ∷ [])) ≡ word_sum b + (lo + 256 * hi)
    s = sum_check b lo hi h

    go : Dec (lo + 256 * hi ≡ check_word b) → check_legal (b ++ (lo ∷ hi ∷ [])) ≡ eqb (lo + 256 * hi) (check_word b)
    go (yes e) = eq-eqb (word_sum (b ++ (lo ∷ hi ∷ [])) % 65536) 1 (omega (arith, s)) ∙ sym (eq-eqb _ _ e)
    go (no e) = ne_eqb (word_sum (b ++ (lo ∷ hi ∷ [])) % 65536) 1 (λ q. e (omega (arith, s))) ∙ sym (ne_eqb _ _ e)

-- the block with its check has the sum
pub check_makes : (b : List ℕ) → length b ≡ 510 → word_sum (with_check b) % 65536 ≡ 1
check_makes b h = omega (arith, sum_check b (check_word b % 256) (check_word b / 256) h)

-- ---- a block that has the sum is its first 510 bytes with their check
last_two : (b : List ℕ) → length b ≡ 512 → drop 510 b ≡ get_or b 510 0 ∷ get_or b 511 0 ∷ []
last_two b h =
    drop-cons b 510 0 (omega arith)
    ∙ ap (λ (l : List ℕ). get_or b 510 0 ∷ l) (drop-cons b 511 0 (omega arith))
    ∙ ap (λ (l : List ℕ). get_or b 510 0 ∷ get_or b 511 0 ∷ l) (drop_of_length-le b {i = 512} (omega arith))

only : (s z : ℕ) → z < 65536 → (s + z) % 65536 ≡ 1 → (65537 - s % 65536) % 65536 ≡ z
only s z h e = omega arith

pub check_only : (b : List ℕ) → length b ≡ 512 → get_or b 510 0 < 256 → get_or b 511 0 < 256 → word_sum b % 65536 ≡ 1
    → with_check (take 510 b) ≡ b
check_only b hb hx hy sum =
    let f = take 510 b in
    let e : b ≡ f ++ (get_or b 510 0 ∷ get_or b 511 0 ∷ []) = sym (take-append-drop 510 b) ∙ ap (λ (l : List ℕ). f ++ l) (last_two b hb) in
    let t : word_sum b ≡ word_sum f + (get_or b 510 0 + 256 * get_or b 511 0) = ap word_sum e ∙ sum_check f (get_or b 510 0) (get_or b 511 0) (length-take-le 510 b (omega arith)) in
    let u : (word_sum f + (get_or b 510 0 + 256 * get_or b 511 0)) % 65536 ≡ 1 = ap (λ (w : ℕ). w % 65536) (sym t) ∙ sum in
    let c : check_word f ≡ get_or b 510 0 + 256 * get_or b 511 0 = only (word_sum f) _ (omega arith) u in
    let lo : check_word f % 256 ≡ get_or b 510 0 = omega arith in
    let hi : check_word f / 256 ≡ get_or b 511 0 = omega arith in
    rw (lo, hi, ← last_two b hb) (take-append-drop 510 b)

-- ---- one byte changed
off : (s t v w : ℕ) → s % 65536 ≡ 1 → t % 65536 ≡ 1 → v < 65536 → w < 65536 → t + w ≡ s + v → v ≡ w
off s t v w hs ht hv hw e = omega arith

pub check_changed : (b : List ℕ) (i v : ℕ) → length b ≡ 512 → i < 512 → v < 256 → get_or b i 0 < 256 → (v ≡ get_or b i 0 → ⊥)
    → word_sum b % 65536 ≡ 1 → check_legal (set b i v) ≡ false
check_changed b i v hb hi hv ho ne sum = ne_eqb _ _ λ q.
    ⊎_elim
    (λ (w : word_sum (set b i v) + get_or b i 0 ≡ word_sum b + v). ne (off (word_sum b) (word_sum (set b i v)) v (get_or b i 0) sum q (omega arith) (omega arith) w))
    (λ (w : word_sum (set b i v) + 256 * get_or b i 0 ≡ word_sum b + 256 * v).
    let z : 256 * v ≡ 256 * get_or b i 0 = off (word_sum b) (word_sum (set b i v)) (256 * v) (256 * get_or b i 0) sum q (omega arith) (omega arith) w in
    ne (omega arith))
    (sum_set 256 b i v hb hi)
