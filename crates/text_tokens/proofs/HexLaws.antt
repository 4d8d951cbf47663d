-- Laws of words that are numbers. A place more of a number; two capital digits, as text's `byte_digits` has them, read back as
-- the byte.
use Prim.Native.Nat.{ℕ, zero, suc, ◌+◌, ◌-◌, ◌*◌, ◌/◌, ◌%◌}
use native.Mathlib.Omega.{arith}
use mathlib.Core.Bool.{true, false, ◌&&◌}
use mathlib.Core.Path.{◌≡◌, refl, ap, ◌∙◌}
use borrow.Author.Tests.{ne_eqb}
use Rattle.text_tokens.specs.Hex.{digit_value, is_digit, all_digits, value_in}

-- ---- a place more
pub value-zero : (n : ℕ) → value_in n 0 ≡ 0
unfolding value_in
value-zero zero = refl
value-zero (suc n) = refl

pub digits_zero : (n : ℕ) → all_digits n 0 ≡ true
unfolding all_digits
digits_zero zero = refl
digits_zero (suc n) = refl

pub digits_none : (w : ℕ) → (w ≡ 0 → ⊥) → all_digits 0 w ≡ false
unfolding all_digits
digits_none w h = ne_eqb w 0 h

module _ (n w : ℕ) (places : n ≡ 0 → ⊥) (some : w ≡ 0 → ⊥) where
  pub value-more : value_in n w ≡ (16 * value_in (n - 1) (w / 256) + digit_value (w % 256)) % 4294967296
  unfolding value_in
  value-more = let e : n ≡ suc (n - 1) = omega arith in ap (λ (k : ℕ). value_in k w) e ∙ rw (ne_eqb w 0 some)

  pub digits_more : all_digits n w ≡ (is_digit (w % 256) && all_digits (n - 1) (w / 256))
  unfolding all_digits
  digits_more = let e : n ≡ suc (n - 1) = omega arith in ap (λ (k : ℕ). all_digits k w) e ∙ rw (ne_eqb w 0 some)
