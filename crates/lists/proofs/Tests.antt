-- Laws of tests: a function of a choice, and what the test of whole units says.
use mathlib.Core.Path.{◌≡◌, refl}
use mathlib.Core.Bool.{Bool, true, false, cond}
use Prim.Native.Nat.{ℕ, ◌/◌, ◌%◌, ◌≤◌}
use borrow.Author.Tests.{leb-true, eqb-true, le-leb, eq-eqb}
use Rattle.std.proofs.lemmas.Bool.{and_parts}
use Rattle.std.specs.Cmp.Derive.{both_true}
use Rattle.lists.specs.Units.{whole_units}

-- a function of a choice is the choice of its values
pub of_cond : {A B : Type 0} (g : A → B) (b : Bool) (x y : A) → g (cond b x y) ≡ cond b (g x) (g y)
of_cond g true x y = refl
of_cond g false x y = refl

-- 1 to `most` whole units, as facts on numbers
pub record Units (unit most size : ℕ) : Type 0 where
  pub even : size % unit ≡ 0
  pub some : 1 ≤ size / unit
  pub few : size / unit ≤ most

pub units : (unit most size : ℕ) → whole_units unit most size ≡ true → Units unit most size
units unit most size e =
    let p = and_parts _ _ e in
    let q = and_parts _ _ p.0 in
    record { even = eqb-true _ _ q.0; some = leb-true _ _ q.1; few = leb-true _ _ p.1 }

pub units_test : (unit most size : ℕ) → Units unit most size → whole_units unit most size ≡ true
units_test unit most size u =
    both_true (both_true (eq-eqb _ _ u.even) (le-leb _ _ u.some)) (le-leb _ _ u.few)
