-- The bits of a number, counted from the lowest, 0, as the databook counts those of a byte.
use Rattle.std.specs.Prelude.{ℕ, ◌/◌, ◌%◌, ◌^◌, Bool, eqb}

abbrev pub bit : ℕ → ℕ → ℕ
bit k x = x / 2 ^ k % 2

abbrev pub is_set : ℕ → ℕ → Bool
is_set k x = eqb (bit k x) 1
