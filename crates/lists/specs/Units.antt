-- A length in whole units: a file of "1 to 12 whole blocks", a list of "1 to 1,008 whole steps" (document 01,
-- Numbers returned, number 8). With a unit of 0 there are none: a number divided by 0 is 0. What the test says
-- as facts on numbers is in proofs/Tests.
use Rattle.std.specs.Prelude.{ℕ, ◌/◌, ◌%◌, Bool, ◌&&◌, leb, eqb}

abbrev pub whole_units : ℕ → ℕ → ℕ → Bool
whole_units unit most size = eqb (size % unit) 0 && leb 1 (size / unit) && leb (size / unit) most
