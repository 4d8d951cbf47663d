-- A number of document 01's table and the value with it (Numbers returned). In the crates above each answer x has one definition
-- `of_x` that gives it for every case, or `x_number` where there is a number and no value; the table that a contract cites, by
-- the input alone, is `x_table`.
use Rattle.std.specs.Prelude.{ℕ}

-- the value is 0 where the table says "nothing more"
pub record Returned : Type 0 where
  pub number : ℕ
  pub value : ℕ

abbrev pub returned : ℕ → ℕ → Returned
returned n v = record { number = n; value = v }
