-- The raster code of document 01, "Video memory and block transfers", and of the databook's appendix E:
-- for each bit, k = 4P + 2S + D and the result is bit k of the code. Also when a code depends on the source or the pattern.
-- Bytes are numbers below 256. Their laws are in proofs/Laws.
use Rattle.std.specs.Prelude.{ℕ, zero, suc, ◌+◌, ◌*◌, Bool, not, eqb}
use Rattle.lists.specs.Scan.{every}
use Rattle.lists.specs.Bits.{bit}

-- the number of n bits whose bit i is f i
unfoldable pub number : ℕ → (ℕ → ℕ) → ℕ
number zero f = 0
number (suc n) f = f 0 + 2 * number n (λ i. f (suc i))

-- k = 4P + 2S + D
abbrev pub index : ℕ → ℕ → ℕ → ℕ
index p s d = 4 * p + 2 * s + d

-- bit i of the result is bit k of the code, with k of the operands' bits i
unfoldable pub raster : ℕ → ℕ → ℕ → ℕ → ℕ
raster code p s d = number 8 (λ i. bit (index (bit i p) (bit i s) (bit i d)) code)

-- the code depends on the source: for some P and D it gives another bit with S = 0 than with S = 1
unfoldable pub uses_source : ℕ → Bool
uses_source code = not (every (λ p. every (λ d. eqb (bit (index p 0 d) code) (bit (index p 1 d) code)) 0 2) 0 2)

-- the same of the pattern
unfoldable pub uses_pattern : ℕ → Bool
uses_pattern code = not (every (λ s. every (λ d. eqb (bit (index 0 s d) code) (bit (index 1 s d) code)) 0 2) 0 2)
