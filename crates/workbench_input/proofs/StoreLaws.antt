-- Laws of the store: its first bytes made 0 one after the other, and the memory as the part of the store that a callee is lent.
use Prim.Native.Nat.{ℕ, suc, ◌+◌, ◌<◌}
use mathlib.Core.Path.{◌≡◌, refl, sym, ap, ◌∙◌}
use mathlib.Core.Bool.{Bool, true, false}
use mathlib.Core.List.{List, ◌++◌}
use native.Mathlib.Numerals.{add-one}
use lib.Dec.{ltb}
use lib.ListN.{length, take, drop, get_or, set, replicate, length-replicate, drop_of_length-le, replicate-append-replicate}
use lib.Seq.{set_at, drop-cons, append_snoc, take_all, take-length, drop-length}
use borrow.Author.Tests.{ltb-false}
use Rattle.workbench_input.specs.Acts.{memory, with_memory, shorter, cleared}

-- ---- bytes made 0

pub cleared-none : (s : List ℕ) → s ≡ cleared s 0
unfolding cleared
cleared-none s = refl

pub cleared_more : (s : List ℕ) (i : ℕ) {t : List ℕ} → t ≡ cleared s i → i < length s → set t i 0 ≡ cleared s (i + 1)
unfolding cleared
cleared_more s i {t} e h =
    ap (λ (l : List ℕ). set l i 0) (e ∙ ap (λ (l : List ℕ). replicate i 0 ++ l) (drop-cons s i 0 h))
    ∙ set_at (replicate i 0) (get_or s i 0) (drop (suc i) s) 0 i (length-replicate i 0)
    ∙ sym (append_snoc (replicate i 0) 0 (drop (suc i) s))
    ∙ ap (λ (l : List ℕ). l ++ drop (suc i) s) (replicate-append-replicate i 1 0)
    ∙ ap (λ (n : ℕ). replicate (i + 1) 0 ++ drop n s) (sym (add-one i))

-- ---- the part that is lent
module _ (lent : ℕ) (s : List ℕ) where
  take_by : (b : Bool) → ltb lent (length s) ≡ b → take (shorter lent (length s)) s ≡ take lent s
  take_by true e = rw e
  take_by false e = rw e (take-length s ∙ sym (take_all lent s (ltb-false _ _ e)))

  drop_by : (b : Bool) → ltb lent (length s) ≡ b → drop (shorter lent (length s)) s ≡ drop lent s
  drop_by true e = rw e
  drop_by false e = rw e (drop-length s ∙ sym (drop_of_length-le s (ltb-false _ _ e)))

  -- what the callee is lent
  pub take-shorter : {n : ℕ} → n ≡ shorter lent (length s) → take n s ≡ take lent s
  take-shorter e = ap (λ (n : ℕ). take n s) e ∙ take_by (ltb lent (length s)) refl

  -- what the store is once the part is back
  pub memory_back : {n : ℕ} → n ≡ shorter lent (length s) → (f : List ℕ → List ℕ) {m : List ℕ} → m ≡ f (take n s)
      → m ++ drop n s ≡ with_memory lent s (f (memory lent s))
  memory_back {n} e f {m} back =
      ap (λ (l : List ℕ). l ++ drop n s) (back ∙ ap f (take-shorter e))
      ∙ ap (λ (l : List ℕ). f (memory lent s) ++ l) (ap (λ (k : ℕ). drop k s) e ∙ drop_by (ltb lent (length s)) refl)
