-- Laws of `Part`, one memory being another with a stretch filled in: a stretch grows at either end by a store, and what it is to
-- become decides the whole memory. Every loop over a line goes by the first. Assumes nothing.
use mathlib.Core.Path.{◌≡◌, refl, sym, ap, ◌∙◌}
use mathlib.Core.Bool.{Bool, true, false, cond}
use mathlib.Core.List.{List}
use mathlib.Core.Logic.{◌⊎◌, inl, inr, ⊎_elim}
use Prim.Native.Nat.{ℕ, zero, suc, ◌+◌, ◌-◌, ◌%◌, ◌≤◌, ◌<◌, zero-le}
use native.Mathlib.Nat.{eq-or-lt_of_le, le_of_suc-le-suc}
use native.Mathlib.Numerals.{add-one}
use native.Mathlib.Omega.{arith}
use lib.ListN.{length, get_or, set, length-set}
use lib.Seq.{get_or-set_same, get_or-set_other, ext_get_or}
use Rattle.blit.specs.Working.{Part, bytes_from}

pub less_or_equal : (a b : ℕ) → (a < b) ⊎ (b ≤ a)
less_or_equal a zero = inr (omega arith)
less_or_equal zero (suc b) = inl (omega arith)
less_or_equal (suc a) (suc b) = ⊎_elim (λ h. inl (omega arith)) (λ h. inr (omega arith)) (less_or_equal a b)

pub part_none : (low : ℕ) (u : ℕ → ℕ) (i : ℕ) (m : List ℕ) → Part low u i i m m
part_none low u i m = record { same = refl; done = λ k h l. absurd (omega arith); below = λ x h. refl; above = λ x h. refl }

-- a store to one place x of the memory
module _ (low : ℕ) (u : ℕ → ℕ) (m m' : List ℕ) (x v : ℕ) (hx : x < length m) where
  pub part_up : (j : ℕ) → Part low u 0 j m m' → x ≡ low + j → v ≡ u j → Part low u 0 (j + 1) m (set m' x v)
  part_up j P e ev =
      record {
        same = length-set m' x v ∙ P.same;
        done = λ k h l.
            ⊎_elim
            (λ q.
            let z : low + k ≡ x = omega arith in
            let hx' : x < length m' = omega arith in
            ap (λ (y : ℕ). get_or (set m' x v) y 0) z ∙ get_or-set_same m' x v 0 hx' ∙ ev ∙ ap u (sym q))
            (λ q. get_or-set_other m' x (low + k) v 0 (λ z. omega arith) ∙ P.done k h q) (eq-or-lt_of_le (le_of_suc-le-suc (rw add-one at l)));
        below = λ y h. get_or-set_other m' x y v 0 (λ z. omega arith) ∙ P.below y h;
        above = λ y h. get_or-set_other m' x y v 0 (λ z. omega arith) ∙ P.above y (omega arith);
      }

  pub part_down : (i j : ℕ) → Part low u (suc i) j m m' → i < j → x ≡ low + i → v ≡ u i → Part low u i j m (set m' x v)
  part_down i j P hij e ev =
      record {
        same = length-set m' x v ∙ P.same;
        done = λ k h l.
            ⊎_elim
            (λ q.
            let z : low + k ≡ x = omega arith in
            let hx' : x < length m' = omega arith in
            ap (λ (y : ℕ). get_or (set m' x v) y 0) z ∙ get_or-set_same m' x v 0 hx' ∙ ev ∙ ap u q)
            (λ q. get_or-set_other m' x (low + k) v 0 (λ z. omega arith) ∙ P.done k q l) (eq-or-lt_of_le h);
        below = λ y h. get_or-set_other m' x y v 0 (λ z. omega arith) ∙ P.below y (omega arith);
        above = λ y h. get_or-set_other m' x y v 0 (λ z. omega arith) ∙ P.above y h;
      }

-- the bytes are what they are called
pub part_as : (low : ℕ) (u v : ℕ → ℕ) (w : ℕ) (m m' : List ℕ) → ((k : ℕ) → k < w → u k ≡ v k) → Part low u 0 w m m' → Part low v 0 w m m'
part_as low u v w m m' e P =
    record { same = P.same; done = λ k h l. P.done k h l ∙ e k l; below = P.below; above = P.above }

pub part_unique : (low : ℕ) (u : ℕ → ℕ) (w : ℕ) (m a b : List ℕ) → Part low u 0 w m a → Part low u 0 w m b → a ≡ b
part_unique low u w m a b A B =
    ext_get_or 0 a b (A.same ∙ sym B.same) (λ x h.
    ⊎_elim (λ l. A.below x (omega arith) ∙ sym (B.below x (omega arith)))
    (λ l. ⊎_elim
    (λ g.
    let z : x ≡ low + (x - low) = omega arith in
    ap (λ (y : ℕ). get_or a y 0) z ∙ A.done (x - low) (omega arith) (omega arith) ∙ sym (B.done (x - low) (omega arith) (omega arith)) ∙ ap (λ (y : ℕ). get_or b y 0) (sym z))
    (λ g. A.above x g ∙ sym (B.above x g)) (less_or_equal x (low + w)))
    (less_or_equal x low))

-- an operand that is looked at only if `b`
pub when : (b : Bool) (x y : ℕ) → (b ≡ true → x ≡ y) → cond b x 0 ≡ cond b y 0
when true x y h = h refl
when false x y h = refl

-- a stretch from the front of a buffer
pub front : (u : ℕ → ℕ) (w : ℕ) (m m' : List ℕ) → Part 0 u 0 w m m' → (k : ℕ) → k < w → get_or m' k 0 ≡ u k
front u w m m' P k h = let z : k ≡ 0 + k = omega arith in ap (λ (y : ℕ). get_or m' y 0) z ∙ P.done k zero-le h

-- eight bytes from p, put twice
pub put_twice : (p : ℕ) (m b₀ b₁ b₂ : List ℕ) → Part 0 (bytes_from p m) 0 8 b₀ b₁ → Part 8 (bytes_from p m) 0 8 b₁ b₂
    → (x : ℕ) → x < 16 → get_or b₂ x 0 ≡ get_or m (p + x % 8) 0
put_twice p m b₀ b₁ b₂ A B x h =
    ⊎_elim
    (λ q. B.below x (omega arith) ∙ front (bytes_from p m) 8 b₀ b₁ A x q ∙ ap (λ (y : ℕ). get_or m (p + y) 0) (omega arith))
    (λ q.
    let z : x ≡ 8 + (x - 8) = omega arith in
    ap (λ (y : ℕ). get_or b₂ y 0) z ∙ B.done (x - 8) zero-le (omega arith) ∙ ap (λ (y : ℕ). get_or m (p + y) 0) (omega arith))
    (less_or_equal x 8)
