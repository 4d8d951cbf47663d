-- What a test made of two gives, and cases on a flag. Assumes nothing.
use mathlib.Core.Path.{◌≡◌, refl}
use mathlib.Core.Bool.{Bool, true, false, not, ◌||◌, false≢true}
use mathlib.Core.Logic.{◌⊎◌, inl, inr}

pub or_true : (a b : Bool) → a || b ≡ true → (a ≡ true) ⊎ (b ≡ true)
or_true true b e = inl refl
or_true false b e = inr e

-- what is asked only if `b`
pub if_so : (b t : Bool) → not b || t ≡ true → b ≡ true → t ≡ true
if_so true t h e = h
if_so false t h e = absurd (false≢true e)

pub both_ways : (b : Bool) → (b ≡ true) ⊎ (b ≡ false)
both_ways true = inl refl
both_ways false = inr refl

-- by cases on a flag, with the equation
pub on : (P : Bool → Type 0) (b : Bool) → (b ≡ true → P true) → (b ≡ false → P false) → P b
on P true f g = f refl
on P false f g = g refl
