-- The byte of flags as a number: what is left of it when one of its three bits is replaced, and that it is known by its bits.
-- Bits are counted from the lowest, 0; the spare bits are those from bit 3 on.
use Rattle.std.proofs.Common.{◌≡◌, ℕ, ◌+◌, ◌*◌, ◌/◌, ◌%◌, ◌<◌, Bool, true, false, cond, eqb, sym, refl, arith, eqb-true}
use borrow.Author.Tests.{eqb-false}

-- a bit and the test for 1
pub below_two : (bit : Bool) → cond bit 1 0 < 2
below_two true = omega arith
below_two false = omega arith

pub tested : {x : ℕ} (bit : Bool) → x ≡ cond bit 1 0 → eqb x 1 ≡ bit
tested true e = rw e
tested false e = rw e

differ : true ≡ false → ⊥
differ h = let z : ◌≡◌ {A = ℕ} 0 1 = cc in omega arith

pub same_bit : (x y : ℕ) → eqb (x % 2) 1 ≡ eqb (y % 2) 1 → x % 2 ≡ y % 2
same_bit x y h = go (eqb (x % 2) 1) (eqb (y % 2) 1) refl refl h
  where
    go : (a b : Bool) → eqb (x % 2) 1 ≡ a → eqb (y % 2) 1 ≡ b → a ≡ b → x % 2 ≡ y % 2
    go true true p q r = omega (arith, eqb-true (x % 2) 1 p, eqb-true (y % 2) 1 q)
    go true false p q r = absurd (differ r)
    go false true p q r = absurd (differ (sym r))
    go false false p q r =
        let u : x % 2 ≡ 1 → ⊥ = eqb-false (x % 2) 1 p in
        let v : y % 2 ≡ 1 → ⊥ = eqb-false (y % 2) 1 q in
        omega arith

-- the bits of a byte: r, t, p, and the spare bits s
pub record Flags (v r t p s : ℕ) : Type 0 where
  pub reading : v % 2 ≡ r
  pub turn : v / 2 % 2 ≡ t
  pub picture : v / 4 % 2 ≡ p
  pub spare : v / 8 ≡ s

quarter : (x : ℕ) → x / 4 ≡ x / 2 / 2
quarter x = omega arith

eighth : (x : ℕ) → x / 8 ≡ x / 4 / 2
eighth x = omega arith

low_bit : (x : ℕ) → x % 2 ≡ x % 4 % 2
low_bit x = omega arith

next_bit : (x : ℕ) → x / 2 % 2 ≡ x % 4 / 2
next_bit x = omega arith

pub reading-put : (o v w : ℕ) → w < 2 → v ≡ o / 2 * 2 + w → Flags v w (o / 2 % 2) (o / 4 % 2) (o / 8)
reading-put o v w h e =
    let half : v / 2 ≡ o / 2 = omega arith in
    record {
      reading = omega arith;
      turn = rw half;
      picture = rw (quarter v, quarter o, half);
      spare = rw (eighth v, eighth o, quarter v, quarter o, half);
    }

pub turn_put : (o v w : ℕ) → w < 2 → v ≡ o / 4 * 4 + o % 2 + 2 * w → Flags v (o % 2) w (o / 4 % 2) (o / 8)
turn_put o v w h e = rw (eighth o) (go (o / 4) (o % 2) (omega arith) e)
  where
    go : (q r : ℕ) → r < 2 → v ≡ q * 4 + r + 2 * w → Flags v r w (q % 2) (q / 2)
    go q r b e =
        let upper : v / 4 ≡ q = omega arith in
        record { reading = omega arith; turn = omega arith; picture = rw upper; spare = rw (eighth v, upper) }

pub picture_put : (o v w : ℕ) → w < 2 → v ≡ o / 8 * 8 + o % 4 + 4 * w → Flags v (o % 2) (o / 2 % 2) w (o / 8)
picture_put o v w h e = rw (low_bit o, next_bit o) (go (o / 8) (o % 4) (omega arith) e)
  where
    go : (q m : ℕ) → m < 4 → v ≡ q * 8 + m + 4 * w → Flags v (m % 2) (m / 2) w q
    go q m b e =
        let lower : v % 4 ≡ m = omega arith in
        let upper : v / 4 ≡ q * 2 + w = omega arith in
        record {
          reading = rw (low_bit v, lower);
          turn = rw (next_bit v, lower);
          picture = rw upper (omega arith);
          spare = rw (eighth v, upper) (omega arith);
        }

-- bytes that agree in the bits agree
halves : (x y : ℕ) → x % 2 ≡ y % 2 → x / 2 ≡ y / 2 → x ≡ y
halves x y h w = omega arith

pub same_flags : (x y : ℕ) → x % 2 ≡ y % 2 → x / 2 % 2 ≡ y / 2 % 2 → x / 4 % 2 ≡ y / 4 % 2 → x / 8 ≡ y / 8 → x ≡ y
same_flags x y r t p s =
    let four : x / 4 ≡ y / 4 = halves (x / 4) (y / 4) p (rw (← eighth x, ← eighth y) s) in
    halves x y r (halves (x / 2) (y / 2) t (rw (← quarter x, ← quarter y) four))
