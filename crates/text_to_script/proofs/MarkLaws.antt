-- Laws of the mark of UTF-8 in front of a text: it lies within the text, and what is composed of a text with it is what is
-- composed of the text (`mark_changes_nothing`). A text that begins with a byte below EFh has none.
use Prim.Native.Nat.{ℕ, ◌≤◌, ◌<◌}
use native.Mathlib.Omega.{arith}
use mathlib.Core.Bool.{Bool, true, false, cond, ◌&&◌}
use mathlib.Core.Path.{◌≡◌, refl, ap}
use mathlib.Core.List.{List, [], ◌∷◌, ◌++◌}
use lib.Dec.{eqb}
use lib.ListN.{length, get_or, drop}
use borrow.Author.Tests.{ne_eqb, eqb-true}
use Rattle.std.proofs.lemmas.Bool.{and_parts}
use Rattle.text_to_script.specs.Lines.{lines_of, mark, mark_size, text_lines}
use Rattle.text_to_script.specs.Compose.{composed_from, composed}

third_within : (t : List ℕ) → eqb (get_or t 2 0) 0xBF ≡ true → 3 ≤ length t
third_within [] e = absurd (let z : ◌≡◌ {A = ℕ} 0 0xBF = eqb-true _ _ e in omega arith)
third_within (a ∷ []) e = absurd (let z : ◌≡◌ {A = ℕ} 0 0xBF = eqb-true _ _ e in omega arith)
third_within (a ∷ b ∷ []) e = absurd (let z : ◌≡◌ {A = ℕ} 0 0xBF = eqb-true _ _ e in omega arith)
third_within (a ∷ b ∷ c ∷ t) e = omega arith

pub mark-within : (t : List ℕ) → mark_size t ≤ length t
unfolding mark_size
mark-within t = go (eqb (get_or t 0 0) 0xEF && eqb (get_or t 1 0) 0xBB && eqb (get_or t 2 0) 0xBF) refl
  where
    go : (b : Bool) → (eqb (get_or t 0 0) 0xEF && eqb (get_or t 1 0) 0xBB && eqb (get_or t 2 0) 0xBF) ≡ b → cond b 3 0 ≤ length t
    go true e = third_within t (and_parts (eqb (get_or t 0 0) 0xEF && eqb (get_or t 1 0) 0xBB) (eqb (get_or t 2 0) 0xBF) e).1
    go false e = omega arith

pub mark-none : (t : List ℕ) → get_or t 0 0 < 0xEF → mark_size t ≡ 0
unfolding mark_size
mark-none t h = rw (ne_eqb (get_or t 0 0) 0xEF (λ z. omega arith))

-- a text without a mark, as it is
pub lines_unmarked : (t : List ℕ) → mark_size t ≡ 0 → text_lines t ≡ lines_of t
lines_unmarked t e = ap (λ (n : ℕ). lines_of (drop n t)) e

pub lines_marked : (t : List ℕ) → text_lines (mark ++ t) ≡ lines_of t
unfolding mark_size
lines_marked t = refl

module _ (t : List ℕ) (unmarked : mark_size t ≡ 0) where
  pub mark_changes_nothing : (room : ℕ) → composed (mark ++ t) room ≡ composed t room
  mark_changes_nothing room = ap (λ (ls : List (List ℕ)). composed_from 0 [] ls room) (rw (lines_unmarked t unmarked) (lines_marked t))
