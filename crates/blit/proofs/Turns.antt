-- Laws of `in_turn`, the first n of some changes to a memory: what each keeps all keep, and what one makes stays where no later
-- one changes it. Assumes nothing.
use mathlib.Core.Path.{◌≡◌, refl, ap, ◌∙◌}
use mathlib.Core.List.{List}
use mathlib.Core.Logic.{⊎_elim}
use Prim.Native.Nat.{ℕ, zero, suc, ◌+◌, ◌<◌}
use native.Mathlib.Nat.{add-zero, add-suc, not-suc-le-zero, le_refl, eq-or-lt_of_le, le_of_suc-le-suc}
use native.Mathlib.Omega.{arith}
use lib.ListN.{get_or}
use Rattle.blit.specs.Transfer.{in_turn}

pub in_turn_keeps : (A : Type 0) (look : List ℕ → A) (n : ℕ) (f : ℕ → List ℕ → List ℕ) → ((k : ℕ) → k < n → (m : List ℕ) → look (f k m) ≡ look m)
    → (m : List ℕ) → look (in_turn n f m) ≡ look m
unfolding in_turn
in_turn_keeps A look zero f h m = refl
in_turn_keeps A look (suc n) f h m = h n (le_refl (suc n)) (in_turn n f m) ∙ in_turn_keeps A look n f (λ k l. h k (omega arith)) m

-- the memory itself is kept where no change changes it
pub in_turn-still : (n : ℕ) (f : ℕ → List ℕ → List ℕ) (m : List ℕ) → ((k : ℕ) → k < n → f k m ≡ m) → in_turn n f m ≡ m
unfolding in_turn
in_turn-still zero f m h = refl
in_turn-still (suc n) f m h = ap (f n) (in_turn-still n f m (λ k l. h k (omega arith))) ∙ h n (le_refl (suc n))

pub in_turn-same : (n : ℕ) (f g : ℕ → List ℕ → List ℕ) → ((k : ℕ) → k < n → (m : List ℕ) → f k m ≡ g k m) → (m : List ℕ) → in_turn n f m ≡ in_turn n g m
unfolding in_turn
in_turn-same zero f g h m = refl
in_turn-same (suc n) f g h m = ap (f n) (in_turn-same n f g (λ k l. h k (omega arith)) m) ∙ h n (le_refl (suc n)) (in_turn n g m)

-- what change k makes of byte x stays, where no later one changes it
pub in_turn-at : (n : ℕ) (f : ℕ → List ℕ → List ℕ) (m : List ℕ) (x v k : ℕ) → k < n → get_or (f k (in_turn k f m)) x 0 ≡ v
    → ((j : ℕ) → k < j → j < n → (m : List ℕ) → get_or (f j m) x 0 ≡ get_or m x 0) → get_or (in_turn n f m) x 0 ≡ v
unfolding in_turn
in_turn-at zero f m x v k l e h = absurd (not-suc-le-zero l)
in_turn-at (suc n) f m x v k l e h =
    ⊎_elim (λ q. rw q at e)
    (λ q. h n q (le_refl (suc n)) (in_turn n f m) ∙ in_turn-at n f m x v k q e (λ j p r. h j p (omega arith)))
    (eq-or-lt_of_le (le_of_suc-le-suc l))

-- the first a, and then b more
pub in_turn-more : (a b : ℕ) (f : ℕ → List ℕ → List ℕ) (m : List ℕ) → in_turn (a + b) f m ≡ in_turn b (λ i m. f (a + i) m) (in_turn a f m)
unfolding in_turn
in_turn-more a zero f m = rw (add-zero a)
in_turn-more a (suc b) f m = rw (add-suc a b) (ap (f (a + b)) (in_turn-more a b f m))
