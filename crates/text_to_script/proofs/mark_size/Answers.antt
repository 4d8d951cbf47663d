-- The text begins with the three bytes, or not.
use Prim.Native.Nat.{ℕ}
use native.Mathlib.Decide.{ℕ_discrete}
use mathlib.Core.Bool.{◌&&◌}
use mathlib.Core.Path.{◌≡◌, refl, sym, ◌∙◌}
use mathlib.Core.List.{List, [], ◌∷◌}
use lib.Dec.{eqb}
use lib.ListN.{get_or}
use borrow.Author.Tests.{eq-eqb, ne_eqb}
use Rattle.std.specs.List.{starts_with}
use Rattle.std.proofs.Math.Bool.{and-true, and-false, and_assoc}
use Rattle.text_to_script.specs.Lines.{mark, mark_size}
use Rattle.text_to_script.proofs.mark_size.Goals as goal

turned : (a b : ℕ) → eqb a b ≡ eqb b a
turned a b = go (ℕ_discrete a b)
  where
    go : Dec (a ≡ b) → eqb a b ≡ eqb b a
    go (yes e) = eq-eqb a b e ∙ sym (eq-eqb b a (sym e))
    go (no n) = ne_eqb a b n ∙ sym (ne_eqb b a (λ e. n (sym e)))

begins : (t : List ℕ) → starts_with eqb t mark ≡ (eqb (get_or t 0 0) 0xEF && eqb (get_or t 1 0) 0xBB && eqb (get_or t 2 0) 0xBF)
begins [] = refl
begins (a ∷ []) = rw (and-false (eqb 0xEF a), and-false (eqb a 0xEF))
begins (a ∷ b ∷ []) = rw (and-false (eqb 0xBB b), and-false (eqb 0xEF a), and-false (eqb a 0xEF && eqb b 0xBB))
begins (a ∷ b ∷ c ∷ t) =
    rw (turned 0xEF a, turned 0xBB b, turned 0xBF c, and-true (eqb c 0xBF), and_assoc (eqb a 0xEF) (eqb b 0xBB) (eqb c 0xBF))

pub returns-then-starts_with : goal.returns-then-starts_with
unfolding mark_size
returns-then-starts_with c = rw (sym (begins c.args.text.now) ∙ sym c.starts_with.ensures.value ∙ c.if-starts_with.true)

pub returns-else-starts_with : goal.returns-else-starts_with
unfolding mark_size
returns-else-starts_with c = rw (sym (begins c.args.text.now) ∙ sym c.starts_with.ensures.value ∙ c.if-starts_with.false)
