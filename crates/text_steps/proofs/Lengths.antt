-- A name has at most seven bytes, a step's text at most 19, its line at most 20.
use Prim.Native.Nat.{ℕ, ◌≤◌}
use native.Mathlib.Omega.{arith}
use mathlib.Core.Bool.{Bool, true, false, cond}
use mathlib.Core.List.{[], ◌∷◌, ◌++◌}
use lib.Dec.{eqb}
use lib.ListN.{length, length-append}
use Rattle.text.specs.Digits.{byte_digits}
use Rattle.script_steps.specs.declared.Step.{Step}
use Rattle.script_steps.specs.declared.Step.TheVariants.{Set, Field, Colour}
use Rattle.text_steps.specs.Written.{letter, name_text, byte_text, step_text, step_line}

pub name_most : (g i : ℕ) → length (name_text g i) ≤ 7
unfolding name_text
name_most g i = go (eqb g 6) (eqb g 7)
  where
    go : (a b : Bool)
        → length (cond a (0x4D ∷ 0x53 ∷ 0x52 ∷ []) (cond b (0x50 ∷ 0x41 ∷ 0x4C ∷ 0x4D ∷ 0x41 ∷ 0x53 ∷ 0x4B ∷ []) (letter g ∷ 0x52 ∷ byte_digits i))) ≤ 7
    go true b = omega arith
    go false true = omega arith
    go false false = omega arith

pub text_most : (s : Step) → length (step_text s) ≤ 19
unfolding step_text
text_most (Set g i v) = let e = length-append (name_text g i) (byte_text v) in omega (arith, name_most g i)
text_most (Field g i v m) =
    let e = length-append (name_text g i ++ byte_text m) (byte_text v) in
    let f = length-append (name_text g i) (byte_text m) in
    omega (arith, name_most g i)
text_most (Colour e r g b) = omega arith

pub line_most : (s : Step) → length (step_line s) ≤ 20
line_most s = let e = length-append (step_text s) (0x0A ∷ []) in omega (arith, text_most s)
