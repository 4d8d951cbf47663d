-- Laws of the digits. Read back, a byte's two digits say the byte, a port's three digits the port modulo 4096, and decimal digits
-- every number that their places hold. No number has more decimal digits than places.
use Prim.Native.Nat.{ℕ, zero, suc, ◌+◌, ◌-◌, ◌*◌, ◌/◌, ◌%◌, ◌^◌, ◌≤◌, ◌<◌}
use native.Mathlib.Omega.{arith}
use native.Mathlib.Nat.{pow-succ'}
use mathlib.Core.Bool.{Bool, true, false, cond}
use mathlib.Core.Path.{◌≡◌, refl, ap, ◌∙◌}
use mathlib.Core.List.{List, [], ◌∷◌, ◌++◌}
use lib.Dec.{ltb}
use lib.ListN.{length, length-append}
use borrow.Author.Tests.{lt-ltb, le-ltb, ltb-true, ltb-false}
use Rattle.text.specs.Digits.{hex_digit, byte_digits, port_digits, decimal_in}

-- ---- one place more
pub decimal-none : (n : ℕ) → decimal_in 0 n ≡ []
unfolding decimal_in
decimal-none n = refl

module _ (k n : ℕ) (some : k ≡ 0 → ⊥) where
  pub decimal_small : n < 10 → decimal_in k n ≡ (0x30 + n) ∷ []
  unfolding decimal_in
  decimal_small h = let e : k ≡ suc (k - 1) = omega arith in rw (e, lt-ltb _ _ h)

  pub decimal-more : 10 ≤ n → decimal_in k n ≡ decimal_in (k - 1) (n / 10) ++ ((0x30 + n % 10) ∷ [])
  unfolding decimal_in
  decimal-more h = let e : k ≡ suc (k - 1) = omega arith in ap (λ (i : ℕ). decimal_in i n) e ∙ rw (le-ltb _ _ h)

-- ---- how many digits
pub decimal_most : (k n : ℕ) → length (decimal_in k n) ≤ k
unfolding decimal_in
decimal_most zero n = omega arith
decimal_most (suc k) n = go (ltb n 10) (decimal_most k (n / 10))
  where
    go : (b : Bool) → length (decimal_in k (n / 10)) ≤ k
        → length (cond b ((0x30 + n) ∷ []) (decimal_in k (n / 10) ++ ((0x30 + n % 10) ∷ []))) ≤ suc k
    go true h = omega arith
    go false h = simp length-append (omega arith)

-- ---- digits read back: the value of one, and of a row of them behind a value
abbrev pub digit_value : ℕ → ℕ
digit_value d = cond (ltb d 0x3A) (d - 0x30) (d - 0x37)

abbrev pub value_of : ℕ → ℕ → List ℕ → ℕ
value_of base value [] = value
value_of base value (d ∷ ds) = value_of base (base * value + digit_value d) ds

value-append : (base v : ℕ) (ds es : List ℕ) → value_of base v (ds ++ es) ≡ value_of base (value_of base v ds) es
value-append base v [] es = refl
value-append base v (d ∷ ds) es = value-append base (base * v + digit_value d) ds es

decimal-value : (d : ℕ) → d < 10 → digit_value (0x30 + d) ≡ d
decimal-value d h = let k : 0x30 + d < 0x3A = omega arith in rw (lt-ltb _ _ k) (omega arith)

hex_value : (d : ℕ) → d < 16 → digit_value (hex_digit d) ≡ d
hex_value d h = go (ltb d 10) refl
  where
    go : (b : Bool) → ltb d 10 ≡ b → digit_value (cond b (0x30 + d) (0x37 + d)) ≡ d
    go true e = decimal-value d (ltb-true _ _ e)
    go false e =
        let m : 10 ≤ d = ltb-false _ _ e in
        let k : 0x3A ≤ 0x37 + d = omega arith in
        rw (le-ltb _ _ k) (omega arith)

pub byte-read : (v : ℕ) → value_of 16 0 (byte_digits v) ≡ v % 256
byte-read v =
    let a : digit_value (hex_digit (v / 16 % 16)) ≡ v / 16 % 16 = hex_value (v / 16 % 16) (omega arith) in
    let b : digit_value (hex_digit (v % 16)) ≡ v % 16 = hex_value (v % 16) (omega arith) in
    rw (a, b) (omega arith)

pub port-read : (p : ℕ) → value_of 16 0 (port_digits p) ≡ p % 4096
port-read p =
    let a : digit_value (hex_digit (p / 256 % 16)) ≡ p / 256 % 16 = hex_value (p / 256 % 16) (omega arith) in
    let b : digit_value (hex_digit (p / 16 % 16)) ≡ p / 16 % 16 = hex_value (p / 16 % 16) (omega arith) in
    let c : digit_value (hex_digit (p % 16)) ≡ p % 16 = hex_value (p % 16) (omega arith) in
    rw (a, b, c) (omega arith)

pub decimal-read : (k n : ℕ) → n < 10 ^ k → value_of 10 0 (decimal_in k n) ≡ n
unfolding decimal_in
decimal-read zero n h = omega arith
decimal-read (suc k) n h = go (ltb n 10) refl (decimal-read k (n / 10))
  where
    go : (b : Bool) → ltb n 10 ≡ b → (n / 10 < 10 ^ k → value_of 10 0 (decimal_in k (n / 10)) ≡ n / 10)
        → value_of 10 0 (cond b ((0x30 + n) ∷ []) (decimal_in k (n / 10) ++ ((0x30 + n % 10) ∷ []))) ≡ n
    go true e before = ap (◌+◌ 0) (decimal-value n (ltb-true _ _ e)) ∙ omega arith
    go false e before =
        let t : 10 ≤ n = ltb-false _ _ e in
        let w : n < 10 * 10 ^ k = rw (pow-succ' 10 k) at h in
        let f : value_of 10 0 (decimal_in k (n / 10)) ≡ n / 10 = before (omega arith) in
        let d : digit_value (0x30 + n % 10) ≡ n % 10 = decimal-value (n % 10) (omega arith) in
        value-append 10 0 (decimal_in k (n / 10)) ((0x30 + n % 10) ∷ []) ∙ rw (f, d) (omega arith)
