-- Laws that show the definitions of a linear read and write to be the right ones: which lengths are allowed; each number of
-- document 01, "Numbers returned", exactly when it says so; what a write leaves, as reads see it. Assumes nothing.
use mathlib.Core.Path.{◌≡◌, refl}
use mathlib.Core.Bool.{Bool, true, false, cond, ◌&&◌, false≢true, true≢false}
use mathlib.Core.List.{List}
use mathlib.Core.Logic.{◌↔◌, ◌≢◌}
use Prim.Native.Nat.{ℕ, ◌%◌, ◌≤◌, ◌<◌}
use lib.Dec.{leb, ltb, eqb}
use lib.ListN.{length, get_or, set, length-set}
use lib.Seq.{get_or-set_same, get_or-set_other}
use borrow.Author.Tests.{le-leb, leb-true, lt-ltb, le-ltb, ltb-false, eq-eqb, eqb-true, eqb-false}
use Rattle.std.proofs.lemmas.Bool.{and_parts}
use Rattle.std.specs.Cmp.Derive.{both_true}
use Rattle.memory.specs.Memory.{length_allowed, byte_read, byte_number, byte_value, byte_written}

-- ---- the lengths

-- any multiple of 4 from 4,096 to 2,097,152
pub allowed : (n : ℕ) → length_allowed n ≡ true → (4096 ≤ n) × (n ≤ 2097152)
allowed n e =
    let h = and_parts (leb 4096 n) (leb n 2097152) (and_parts _ (eqb (n % 4) 0) e).0 in
    (leb-true _ _ h.0, leb-true _ _ h.1)

pub allowed_exactly : (n : ℕ) → (length_allowed n ≡ true) ↔ ((4096 ≤ n) × (n ≤ 2097152) × (n % 4 ≡ 0))
allowed_exactly n = (
  λ e. ((allowed n e).0, (allowed n e).1, eqb-true _ _ (and_parts (leb 4096 n && leb n 2097152) (eqb (n % 4) 0) e).1),
  λ h. both_true (both_true (le-leb _ _ h.0) (le-leb _ _ h.1)) (eq-eqb _ _ h.2),
)

-- ---- the numbers of a read and a write

number : Bool → Bool → ℕ
number l i = cond l (cond i 0 4) 3

three_exactly : (l i : Bool) → (number l i ≡ 3) ↔ (l ≡ false)
unfolding number
three_exactly false i = (λ e. refl, λ e. refl)
three_exactly true true = (λ e. absurd (eqb-false 0 3 refl e), λ e. absurd (true≢false e))
three_exactly true false = (λ e. absurd (eqb-false 4 3 refl e), λ e. absurd (true≢false e))

four_exactly : (l i : Bool) → (number l i ≡ 4) ↔ ((l ≡ true) × (i ≡ false))
unfolding number
four_exactly false i = (λ e. absurd (eqb-false 3 4 refl e), λ e. absurd (false≢true e.0))
four_exactly true true = (λ e. absurd (eqb-false 0 4 refl e), λ e. absurd (true≢false e.1))
four_exactly true false = (λ e. (refl, refl), λ e. refl)

module _ (n at : ℕ) where
  -- 3 is given exactly when the memory length is not allowed
  pub byte_3_exactly : (byte_number n at ≡ 3) ↔ (length_allowed n ≡ false)
  unfolding byte_number number
  byte_3_exactly = three_exactly (length_allowed n) (ltb at n)

  -- 4 exactly when it is, and the byte lies outside memory
  pub byte_4_exactly : (byte_number n at ≡ 4) ↔ ((length_allowed n ≡ true) × (n ≤ at))
  unfolding byte_number number
  byte_4_exactly =
      let e = four_exactly (length_allowed n) (ltb at n) in
      (λ h. ((e.0 h).0, ltb-false _ _ (e.0 h).1), λ h. e.1 (h.0, le-ltb _ _ h.1))

-- ---- a write as reads see it

module _ (m : List ℕ) (at v : ℕ) where
  -- what a write does to a view of the memory is what replacing the byte does
  written_sees : (A : Type 0) (look : List ℕ → A) → look (set m at v) ≡ look m → look (byte_written m at v) ≡ look m
  unfolding byte_written
  written_sees A look e = by (length_allowed (length m) && ltb at (length m))
    where
      by : (b : Bool) → look (cond b (set m at v) m) ≡ look m
      by true = e
      by false = refl

  pub length-written : length (byte_written m at v) ≡ length m
  length-written = written_sees ℕ length (simp length-set)

  -- the byte that was written is read
  pub read_written-same : length_allowed (length m) ≡ true → at < length m → byte_value (byte_written m at v) at ≡ v
  unfolding byte_value byte_written
  read_written-same l h = rw (l, lt-ltb _ _ h, length-set m at v, l, lt-ltb _ _ h) (get_or-set_same m at v 0 h)

  -- and no other byte changes
  pub read_written_other : (x : ℕ) → x ≢ at → byte_read (byte_written m at v) x ≡ byte_read m x
  unfolding byte_read
  read_written_other x h = rw (length-written, written_sees ℕ (λ m. get_or m x 0) (get_or-set_other m at x v 0 h))
