-- Laws of the raster code: each bit of the result is the code's; the codes that give one operand (AAh the destination, CCh the
-- source, F0h the pattern); an operand on which the code does not depend makes no difference. Assumes nothing.
use mathlib.Core.Path.{◌≡◌, refl, sym, ap, ap₂, ◌∙◌}
use mathlib.Core.Bool.{Bool, true, false, not, beq}
use Prim.Native.Nat.{ℕ, zero, suc, ◌+◌, ◌*◌, ◌/◌, ◌%◌, ◌^◌, ◌<◌, zero-le}
use native.Mathlib.Nat.{mod-lt, pow-suc, mul_comm, div-one, div-div-eq-div-mul, not-suc-le-zero, le_of_suc-le-suc}
use native.Mathlib.Omega.{arith}
use lib.Dec.{lit<, eqb}
use borrow.Author.Tests.{eqb-true, not-false}
use Rattle.lists.specs.Bits.{bit}
use Rattle.lists.specs.Scan.{every}
use Rattle.lists.proofs.Scan.{every-at}
use Rattle.blit_raster.specs.Raster.{number, index, raster, uses_source, uses_pattern}

-- ---- bits

-- what holds at 0 and at 1 holds at each bit
pub two : (P : ℕ → Type 0) → P 0 → P 1 → (x : ℕ) → x < 2 → P x
two P z o zero h = z
two P z o (suc zero) h = o
two P z o (suc (suc x)) h = absurd (omega arith)

pub bit_small : (i x : ℕ) → bit i x < 2
bit_small i x = mod-lt (x / 2 ^ i) (lit< tt)

pub bit-zero : (x : ℕ) → bit 0 x ≡ x % 2
bit-zero x = rw (div-one x)

pub bit-suc : (i x : ℕ) → bit (suc i) x ≡ bit i (x / 2)
bit-suc i x = rw (pow-suc, mul_comm (2 ^ i) 2, div-div-eq-div-mul x 2 (2 ^ i))

pub number_same : (n : ℕ) (f g : ℕ → ℕ) → ((i : ℕ) → i < n → f i ≡ g i) → number n f ≡ number n g
unfolding number
number_same zero f g h = refl
number_same (suc n) f g h =
    ap₂ (λ (x y : ℕ). x + 2 * y) (h 0 (omega arith)) (number_same n (λ i. f (suc i)) (λ i. g (suc i)) (λ i l. h (suc i) (omega arith)))

pub number_small : (n : ℕ) (f : ℕ → ℕ) → ((i : ℕ) → f i < 2) → number n f < 2 ^ n
unfolding number
number_small zero f h = omega arith
number_small (suc n) f h =
    let l = number_small n (λ i. f (suc i)) (λ i. h (suc i)) in
    omega (arith, h 0)

pub bit-number : (n : ℕ) (f : ℕ → ℕ) → ((i : ℕ) → f i < 2) → (i : ℕ) → i < n → bit i (number n f) ≡ f i
unfolding number
bit-number zero f h i l = absurd (not-suc-le-zero l)
bit-number (suc n) f h zero l = bit-zero (f 0 + 2 * number n (λ i. f (suc i))) ∙ omega (arith, h 0)
bit-number (suc n) f h (suc i) l =
    let e : (f 0 + 2 * number n (λ i. f (suc i))) / 2 ≡ number n (λ i. f (suc i)) = omega (arith, h 0) in
    bit-suc i (f 0 + 2 * number n (λ i. f (suc i))) ∙ ap (bit i) e ∙ bit-number n (λ i. f (suc i)) (λ i. h (suc i)) i (le_of_suc-le-suc l)

-- a number is that of its bits
pub number_bits : (n x : ℕ) → x < 2 ^ n → number n (λ i. bit i x) ≡ x
unfolding number
number_bits zero x h = omega arith
number_bits (suc n) x h =
    ap₂ (λ (a b : ℕ). a + 2 * b) (bit-zero x)
    (number_same n (λ i. bit (suc i) x) (λ i. bit i (x / 2)) (λ i l. bit-suc i x) ∙ number_bits n (x / 2) (omega arith))
    ∙ omega arith

-- ---- the raster byte

pub raster_small : (code p s d : ℕ) → raster code p s d < 256
unfolding raster
raster_small code p s d = number_small 8 (λ i. bit (index (bit i p) (bit i s) (bit i d)) code) (λ i. bit_small (index (bit i p) (bit i s) (bit i d)) code)

pub bit-raster : (code p s d i : ℕ) → i < 8 → bit i (raster code p s d) ≡ bit (index (bit i p) (bit i s) (bit i d)) code
unfolding raster
bit-raster code p s d i h =
    bit-number 8 (λ i. bit (index (bit i p) (bit i s) (bit i d)) code) (λ i. bit_small (index (bit i p) (bit i s) (bit i d)) code) i h

-- a byte with the bits that the code gives is the raster byte
pub raster-is : (code p s d x : ℕ) → x < 256 → ((i : ℕ) → i < 8 → bit (index (bit i p) (bit i s) (bit i d)) code ≡ bit i x) → raster code p s d ≡ x
unfolding raster
raster-is code p s d x h e =
    number_same 8 (λ i. bit (index (bit i p) (bit i s) (bit i d)) code) (λ i. bit i x) e ∙ number_bits 8 x h

-- two functions of three bits agree, tried at each of the eight
abbrev pub agree : (ℕ → ℕ → ℕ → ℕ) → (ℕ → ℕ → ℕ → ℕ) → Bool
agree f g = every (λ p. every (λ s. every (λ d. eqb (f p s d) (g p s d)) 0 2) 0 2) 0 2

pub agree_at : (f g : ℕ → ℕ → ℕ → ℕ) → agree f g ≡ true → (p s d : ℕ) → p < 2 → s < 2 → d < 2 → f p s d ≡ g p s d
agree_at f g e p s d hp hs hd =
    eqb-true _ _
    (every-at (λ d. eqb (f p s d) (g p s d)) 0 2
    (every-at (λ s. every (λ d. eqb (f p s d) (g p s d)) 0 2) 0 2
    (every-at (λ p. every (λ s. every (λ d. eqb (f p s d) (g p s d)) 0 2) 0 2) 0 2 e p zero-le hp) s zero-le hs) d zero-le hd)

-- the code's bit at k = 4P + 2S + D
abbrev pub bit_of : ℕ → ℕ → ℕ → ℕ → ℕ
bit_of code p s d = bit (index p s d) code

-- AAh gives the destination, CCh the source, F0h the pattern
pub aah_destination : (p s d : ℕ) → d < 256 → raster 0xAA p s d ≡ d
unfolding every
aah_destination p s d h =
    raster-is 0xAA p s d d h (λ i l. agree_at (bit_of 0xAA) (λ p s d. d) refl (bit i p) (bit i s) (bit i d) (bit_small i p) (bit_small i s) (bit_small i d))

pub cch_source : (p s d : ℕ) → s < 256 → raster 0xCC p s d ≡ s
unfolding every
cch_source p s d h =
    raster-is 0xCC p s d s h (λ i l. agree_at (bit_of 0xCC) (λ p s d. s) refl (bit i p) (bit i s) (bit i d) (bit_small i p) (bit_small i s) (bit_small i d))

pub f0h_pattern : (p s d : ℕ) → p < 256 → raster 0xF0 p s d ≡ p
unfolding every
f0h_pattern p s d h =
    raster-is 0xF0 p s d p h (λ i l. agree_at (bit_of 0xF0) (λ p s d. p) refl (bit i p) (bit i s) (bit i d) (bit_small i p) (bit_small i s) (bit_small i d))

-- an operand on which the code does not depend makes no difference: x is that operand's bit, y and z the others'
unused : (code : ℕ) (k : ℕ → ℕ → ℕ → ℕ) → every (λ y. every (λ z. eqb (bit (k 0 y z) code) (bit (k 1 y z) code)) 0 2) 0 2 ≡ true
    → (x x' y z : ℕ) → x < 2 → x' < 2 → y < 2 → z < 2 → bit (k x y z) code ≡ bit (k x' y z) code
unused code k e x x' y z hx hx' hy hz =
    let t : bit (k 0 y z) code ≡ bit (k 1 y z) code =
    eqb-true _ _ (every-at (λ z. eqb (bit (k 0 y z) code) (bit (k 1 y z) code)) 0 2 (every-at (λ y. every (λ z. eqb (bit (k 0 y z) code) (bit (k 1 y z) code)) 0 2) 0 2 e y zero-le hy) z zero-le hz) in
    let u : (x : ℕ) → x < 2 → bit (k x y z) code ≡ bit (k 0 y z) code = two (λ (x : ℕ). bit (k x y z) code ≡ bit (k 0 y z) code) refl (sym t) in
    u x hx ∙ sym (u x' hx')

pub raster_no_source : (code p s s' d : ℕ) → uses_source code ≡ false → raster code p s d ≡ raster code p s' d
unfolding raster uses_source
raster_no_source code p s s' d e =
    number_same 8 (λ i. bit (index (bit i p) (bit i s) (bit i d)) code) (λ i. bit (index (bit i p) (bit i s') (bit i d)) code) (λ i l.
    unused code (λ s p d. index p s d) (not-false _ e) (bit i s) (bit i s') (bit i p) (bit i d) (bit_small i s) (bit_small i s') (bit_small i p) (bit_small i d))

pub raster_no_pattern : (code p p' s d : ℕ) → uses_pattern code ≡ false → raster code p s d ≡ raster code p' s d
unfolding raster uses_pattern
raster_no_pattern code p p' s d e =
    number_same 8 (λ i. bit (index (bit i p) (bit i s) (bit i d)) code) (λ i. bit (index (bit i p') (bit i s) (bit i d)) code) (λ i l.
    unused code (λ p s d. index p s d) (not-false _ e) (bit i p) (bit i p') (bit i s) (bit i d) (bit_small i p) (bit_small i p') (bit_small i s) (bit_small i d))

-- and one on which it depends does: at some operands of 00h and FFh the raster byte is another
unfoldable pub seen : (ℕ → Bool) → (ℕ → ℕ → ℕ → ℕ → ℕ) → Bool
seen uses f = every (λ code. beq (uses code) (not (every (λ x. every (λ y. eqb (f code (255 * x) 0 (255 * y)) (f code (255 * x) 255 (255 * y))) 0 2) 0 2))) 0 256

pub source_seen : seen uses_source (λ code p s d. raster code p s d) ≡ true
unfolding every seen raster number uses_source
source_seen = refl

pub pattern_seen : seen uses_pattern (λ code s p d. raster code p s d) ≡ true
unfolding every seen raster number uses_pattern
pattern_seen = refl
