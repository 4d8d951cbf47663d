-- Going through places in order: the first at which a test fails, and whether it holds at every one.
-- "The first offending one is given" (document 01, Numbers returned) is said with `first_not`, and "unused
-- places are zero" (Scripts), what a raster code depends on and which bytes of a transfer lie in memory
-- (Video memory and block transfers) with `every`. Their laws are in proofs/Scan.
use Rattle.std.specs.Prelude.{ℕ, zero, suc, ◌+◌, Bool, true, cond, ◌&&◌}

-- the first of the n places from i at which the test fails; i + n where it fails at none
unfoldable pub first_not : (ℕ → Bool) → ℕ → ℕ → ℕ
first_not t i zero = i
first_not t i (suc n) = cond (t i) (first_not t (i + 1) n) i

-- the test holds at each of the n places from i
unfoldable pub every : (ℕ → Bool) → ℕ → ℕ → Bool
every t i zero = true
every t i (suc n) = t i && every t (i + 1) n
