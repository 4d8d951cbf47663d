-- A list by its elements has as many as asked for, each as given, and grows at its end; it is the same list where its elements
-- are the same, and changed at one place only it is set there.
use mathlib.Core.Path.{◌≡◌, refl, ap, sym, ◌∙◌}
use mathlib.Core.List.{List, [], ◌∷◌, ◌++◌}
use Prim.Native.Nat.{ℕ, zero, suc, ◌<◌}
use native.Mathlib.Omega.{arith}
use lib.ListN.{length, get_or, set}
use lib.Seq.{ext_get_or}
use Rattle.lists.specs.Tab.{tab}

pub tab-length : {A : Type 0} (g : ℕ → A) (n : ℕ) → length (tab g n) ≡ n
unfolding tab
tab-length g zero = refl
tab-length g (suc n) = ap suc (tab-length (λ i. g (suc i)) n)

pub tab-at : {A : Type 0} (g : ℕ → A) (n j : ℕ) (d : A) → j < n → get_or (tab g n) j d ≡ g j
unfolding tab
tab-at g zero j d h = absurd (omega arith)
tab-at g (suc n) zero d h = refl
tab-at g (suc n) (suc j) d h = tab-at (λ i. g (suc i)) n j d (omega arith)

-- a list of bytes
pub tab-bytes : (g : ℕ → ℕ) → ((k : ℕ) → g k < 256) → (n i : ℕ) → get_or (tab g n) i 0 < 256
unfolding tab
tab-bytes g h zero i = omega arith
tab-bytes g h (suc n) zero = h 0
tab-bytes g h (suc n) (suc i) = tab-bytes (λ k. g (suc k)) (λ k. h (suc k)) n i

pub tab_grows : {A : Type 0} (g : ℕ → A) (n : ℕ) → tab g (suc n) ≡ tab g n ++ (g n ∷ [])
unfolding tab
tab_grows g zero = refl
tab_grows g (suc n) = ap (◌∷◌ (g 0)) (tab_grows (λ i. g (suc i)) n)

pub tab-same : {A : Type 0} (f g : ℕ → A) (n : ℕ) → ((k : ℕ) → k < n → f k ≡ g k) → tab f n ≡ tab g n
unfolding tab
tab-same f g zero h = refl
tab-same f g (suc n) h = rw (h 0 (omega arith), tab-same (λ i. f (suc i)) (λ i. g (suc i)) n (λ k w. h (suc k) (omega arith)))

pub tab-set : {A : Type 0} (f g : ℕ → A) (n i : ℕ) → i < n → ((k : ℕ) → k < n → (k ≡ i → ⊥) → g k ≡ f k) → tab g n ≡ set (tab f n) i (g i)
unfolding tab
tab-set f g zero i h e = absurd (omega arith)
tab-set f g (suc n) zero h e = rw (tab-same (λ i. g (suc i)) (λ i. f (suc i)) n (λ k w. e (suc k) (omega arith) (λ s. omega arith)))
tab-set f g (suc n) (suc i) h e =
    rw (e 0 (omega arith) (λ s. omega arith))
    (ap (◌∷◌ (f 0)) (tab-set (λ k. f (suc k)) (λ k. g (suc k)) n i (omega arith) (λ k w s. e (suc k) (omega arith) (λ t. s (omega arith)))))

-- a list is the list by its elements
pub tab-is : (f : ℕ → ℕ) (n : ℕ) (t : List ℕ) → length t ≡ n → ((i : ℕ) → i < n → f i ≡ get_or t i 0) → tab f n ≡ t
tab-is f n t s h =
    ext_get_or 0 (tab f n) t (tab-length f n ∙ sym s) (λ i w. let u : i < n = rw (tab-length f n) at w in tab-at f n i 0 u ∙ h i u)
