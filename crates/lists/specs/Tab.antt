-- A list by its elements, for everything that has a formula: the bytes of a block's places or of a file's steps, the registers
-- of a table, the colours of a palette. And a list of bytes. The length and the element at a place are laws of proofs/Tab.
use Rattle.std.specs.Prelude.{ℕ, zero, suc, ◌<◌, List, [], ◌∷◌, get_or}

-- g at 0, 1, .. below n
unfoldable pub tab : {A : Type 0} → (ℕ → A) → ℕ → List A
tab g zero = []
tab g (suc n) = g 0 ∷ tab (λ i. g (suc i)) n

-- every element is a byte, as it is in each list that a program lends
abbrev pub Bytes : List ℕ → Type 0
Bytes l = (i : ℕ) → get_or l i 0 < 256
