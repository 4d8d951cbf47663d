-- The lower half of a write's word is what a C program gets: the number and the two bytes, and nothing above them.
use Prim.Native.Nat.{ℕ, ◌/◌, ◌%◌}
use native.Mathlib.Omega.{arith}
use mathlib.Core.Bool.{Bool, true, false, cond}
use mathlib.Core.Path.{◌≡◌, sym, ◌∙◌}
use lib.Dec.{eqb}
use Rattle.lent_chip.specs.Accesses.{Told, Packed}
use Rattle.chips69000.specs.Numbers.{in_c}

nothing : (z : Bool) → ◌≡◌ {A = ℕ} (cond z 0 0) 0
nothing true = λ i. 0
nothing false = λ i. 0

pub low_half : (w : ℕ) (t : Told) → Packed w t → Packed (w % 4294967296) (in_c t)
low_half w t p = record {
  above = above ∙ sym (nothing (eqb t.before t.after));
  number = number ∙ p.number;
  between = between ∙ p.between;
  before = before ∙ p.before;
  after = after ∙ p.after;
}
  where
    above : w % 4294967296 / 4294967296 ≡ 0
    above = omega arith

    number : w % 4294967296 / 16777216 % 256 ≡ w / 16777216 % 256
    number = omega arith

    between : w % 4294967296 / 65536 % 256 ≡ w / 65536 % 256
    between = omega arith

    before : w % 4294967296 / 256 % 256 ≡ w / 256 % 256
    before = omega arith

    after : w % 4294967296 % 256 ≡ w % 256
    after = omega arith
