-- The rules of a legal block, one by one: a block is legal exactly where it keeps each.
use mathlib.Core.Path.{◌≡◌, refl, sym, ap, ◌∙◌}
use Rattle.std.specs.Prelude.{◌↔◌}
use Rattle.std.proofs.lemmas.Bool.{false≢true, false_from_ne_true}
use Rattle.lists.specs.Scan.{every}
use Rattle.lists.proofs.Parts.{get_d_part}
use Rattle.lists.proofs.Scan.{every_all, every-at}
use lib.Dec.{eqb, leb}
use mathlib.Core.List.{List}
use mathlib.Core.Bool.{Bool, true, false}
use Prim.Native.Nat.{ℕ, ◌+◌, ◌-◌, ◌%◌, ◌≤◌, ◌<◌, min}
use native.Mathlib.Omega.{arith}
use borrow.Author.Tests.{eqb-true, eq-eqb, leb-true, leb-false}
use lib.ListN.{length, get_or, take, drop, length-take, length-drop}
use Rattle.std.proofs.lemmas.Bool.{and_parts}
use Rattle.std.specs.Cmp.Derive.{both_true}
use Rattle.script.specs.Block.{word, word_sum, last_mark, count_legal, unused_zero, content_legal, block_legal}

pub record Rules (b : List ℕ) (k : ℕ) (last : Bool) : Type 0 where
  pub size : length b ≡ 512
  pub number : word b 0 ≡ k
  pub mark : get_or b 3 0 ≡ last_mark last
  pub four : get_or b 4 0 ≡ 0
  pub five : get_or b 5 0 ≡ 0
  pub count : count_legal (get_or b 2 0) last ≡ true
  pub unused : unused_zero b (get_or b 2 0) ≡ true
  pub sum : word_sum b % 65536 ≡ 1

pub legal_rules : (b : List ℕ) (k : ℕ) (last : Bool) → block_legal b k last ≡ true → Rules b k last
unfolding block_legal content_legal
legal_rules b k last e =
    let p₁ = and_parts _ _ e in
    let p₂ = and_parts _ _ p₁.0 in
    let p₃ = and_parts _ _ p₂.0 in
    let c₁ = and_parts _ _ p₂.1 in
    let c₂ = and_parts _ _ c₁.0 in
    let c₃ = and_parts _ _ c₂.0 in
    let c₄ = and_parts _ _ c₃.0 in
    record {
      size = eqb-true _ _ p₃.0;
      number = eqb-true _ _ p₃.1;
      mark = eqb-true _ _ c₄.0;
      four = eqb-true _ _ c₄.1;
      five = eqb-true _ _ c₃.1;
      count = c₂.1;
      unused = c₁.1;
      sum = eqb-true _ _ p₁.1;
    }

pub rules_legal : (b : List ℕ) (k : ℕ) (last : Bool) → Rules b k last → block_legal b k last ≡ true
unfolding block_legal content_legal
rules_legal b k last r =
    both_true
    (both_true (both_true (eq-eqb _ _ r.size) (eq-eqb _ _ r.number))
    (both_true (both_true (both_true (both_true (eq-eqb _ _ r.mark) (eq-eqb _ _ r.four)) (eq-eqb _ _ r.five)) r.count) r.unused))
    (eq-eqb _ _ r.sum)

-- a count is 1 to 84, in the last block and in any other
pub count_few : (m : ℕ) (last : Bool) → count_legal m last ≡ true → (1 ≤ m) × (m ≤ 84)
count_few m true e = let p = and_parts _ _ e in (leb-true 1 m p.0, leb-true m 84 p.1)
count_few m false e = let p = eqb-true m 84 e in (omega arith, omega arith)

-- a stretch up to e begins no later than there: from a place past it there is none
pub stretch_cut : (t : ℕ → Bool) (x e : ℕ) → every t (min x e) (e - min x e) ≡ every t x (e - x)
unfolding every
stretch_cut t x e = go (leb x e) refl
  where
    go : (b : Bool) → leb x e ≡ b → every t (min x e) (e - min x e) ≡ every t x (e - x)
    go true h = let k : x ≤ e = leb-true _ _ h in let m : min x e ≡ x = omega arith in rw m
    go false h =
        let k : e < x = leb-false _ _ h in
        let m : e - min x e ≡ 0 = omega arith in
        let n : e - x ≡ 0 = omega arith in
        rw (m, n)

-- what holds of a part's bytes exactly where they are all zero is the test of the places that they have in the list
pub zero_part : (b : List ℕ) (a e : ℕ) → e ≤ length b → {r : Bool}
    → (r ≡ true) ↔ ((k : ℕ) → k < length (take (e - a) (drop a b)) → get_or (take (e - a) (drop a b)) k 0 ≡ 0)
    → r ≡ every (λ p. eqb (get_or b p 0) 0) a (e - a)
zero_part b a e h {r} w = go r w
  where
    is_zero : ℕ → Bool
    is_zero p = eqb (get_or b p 0) 0

    part : List ℕ
    part = take (e - a) (drop a b)

    size : length part ≡ e - a
    size = omega (arith, length-take (e - a) (drop a b), length-drop a b)

    at : (p : ℕ) → a ≤ p → p < a + (e - a) → get_or b p 0 ≡ get_or part (p - a) 0
    at p hp hq =
        let j : p ≡ a + (p - a) = omega arith in
        ap (λ (i : ℕ). get_or b i 0) j ∙ sym (get_d_part b a (e - a) (p - a) (omega arith))

    go : (r : Bool) → (r ≡ true) ↔ ((k : ℕ) → k < length part → get_or part k 0 ≡ 0) → r ≡ every is_zero a (e - a)
    go true w = sym (every_all is_zero a (e - a) (λ p hp hq. eq-eqb _ _ (at p hp hq ∙ w.0 refl (p - a) (omega (arith, size)))))
    go false w =
        sym (false_from_ne_true _ (λ q. false≢true (w.1
        (λ k hk. get_d_part b a (e - a) k (omega (arith, size)) ∙ eqb-true _ _ (every-at is_zero a (e - a) q (a + k) (omega arith) (omega (arith, size)))))))
