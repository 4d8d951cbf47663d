-- The raster code is the databook's: what each row of AppendixE makes of P, S and D is the raster byte of its code. An operation
-- on bytes is that operation on single bits, bit for bit, and there each row is tried. Assumes nothing.
use mathlib.Core.Bool.{true}
use mathlib.Core.Path.{◌≡◌, refl, sym, ap, ap₂, ◌∙◌}
use Prim.Native.Nat.{ℕ, zero, suc, ◌-◌, ◌<◌, zero-le}
use native.Mathlib.Omega.{arith}
use lib.Bits.{bit_and, bit_or, bit_xor, and_lt, or_lt, xor_lt}
use lib.Dec.{lit<, ltb}
use lib.ListN.{length, get_or}
use Rattle.lists.specs.Bits.{bit}
use Rattle.lists.specs.Scan.{every}
use Rattle.lists.proofs.Bits.{zero_bit, bit-and, bit-or, bit-xor, bit_complement}
use Rattle.lists.proofs.Scan.{every-at}
use Rattle.blit_raster.specs.Raster.{index, raster}
use Rattle.blit_raster.specs.AppendixE.{Operation, input, zeros, ones, not, ◌and◌, ◌or◌, ◌xor◌, value, inputs, printed}
use Rattle.blit_raster.proofs.Laws.{bit_small, raster-is, agree, agree_at, bit_of}

-- an operation on bytes makes a byte, and each of its bits is that operation on the inputs' bits
value_small : (at : ℕ → ℕ) → ((j : ℕ) → at j < 256) → (o : Operation) → value 255 at o < 256
unfolding value
value_small at h (input j) = h j
value_small at h zeros = lit< tt
value_small at h ones = lit< tt
value_small at h (not o) = omega arith
value_small at h (a and b) = and_lt 8 (value 255 at a) (value 255 at b) (value_small at h a) (value_small at h b)
value_small at h (a or b) = or_lt 8 (value 255 at a) (value 255 at b) (value_small at h a) (value_small at h b)
value_small at h (a xor b) = xor_lt 8 (value 255 at a) (value 255 at b) (value_small at h a) (value_small at h b)

bit-value : (i : ℕ) → i < 8 → (at bits : ℕ → ℕ) → ((j : ℕ) → at j < 256) → ((j : ℕ) → bit i (at j) ≡ bits j)
    → (o : Operation) → bit i (value 255 at o) ≡ value 1 bits o
unfolding value
bit-value i l at bits h e (input j) = e j
bit-value i l at bits h e zeros = zero_bit i
bit-value i l at bits h e ones = bit_complement i 0 l (lit< tt) ∙ ap (λ (t : ℕ). 1 - t) (zero_bit i)
bit-value i l at bits h e (not o) =
    bit_complement i (value 255 at o) l (value_small at h o) ∙ ap (λ (t : ℕ). 1 - t) (bit-value i l at bits h e o)
bit-value i l at bits h e (a and b) =
    bit-and i (value 255 at a) (value 255 at b) ∙ ap₂ bit_and (bit-value i l at bits h e a) (bit-value i l at bits h e b)
bit-value i l at bits h e (a or b) =
    bit-or i (value 255 at a) (value 255 at b) ∙ ap₂ bit_or (bit-value i l at bits h e a) (bit-value i l at bits h e b)
bit-value i l at bits h e (a xor b) =
    bit-xor i (value 255 at a) (value 255 at b) ∙ ap₂ bit_xor (bit-value i l at bits h e a) (bit-value i l at bits h e b)

-- an operation whose bits are the code's is the raster byte
pub value-raster : (o : Operation) (m : ℕ → ℕ) (code p s d : ℕ) → ((k : ℕ) → m k < 256) → p < 256 → s < 256 → d < 256
    → ((i : ℕ) → i < 8 → value 1 (inputs (λ k. bit i (m k)) (bit i p) (bit i s) (bit i d)) o ≡ bit (index (bit i p) (bit i s) (bit i d)) code)
    → value 255 (inputs m p s d) o ≡ raster code p s d
unfolding inputs
value-raster o m code p s d hm hp hs hd e =
    sym
    (raster-is code p s d (value 255 (inputs m p s d) o) (value_small (inputs m p s d) small o) (λ i l.
    sym (bit-value i l (inputs m p s d) (inputs (λ k. bit i (m k)) (bit i p) (bit i s) (bit i d)) small (bits i) o ∙ e i l)))
  where
    small : (j : ℕ) → inputs m p s d j < 256
    small zero = hd
    small (suc zero) = hs
    small (suc (suc zero)) = hp
    small (suc (suc (suc k))) = hm k

    bits : (i j : ℕ) → bit i (inputs m p s d j) ≡ inputs (λ k. bit i (m k)) (bit i p) (bit i s) (bit i d) j
    bits i zero = refl
    bits i (suc zero) = refl
    bits i (suc (suc zero)) = refl
    bits i (suc (suc (suc k))) = refl

abbrev row : ℕ → ℕ × Operation
row j = get_or printed j (0, zeros)

-- what an operation makes of single bits
abbrev on_bits : Operation → ℕ → ℕ → ℕ → ℕ
on_bits o p s d = value 1 (inputs (λ k. 0) p s d) o

-- there are 250 rows, in the order of their codes
pub printed-rows : length printed ≡ 250
unfolding printed
printed-rows = refl

pub printed_order : every (λ j. ltb (row j).0 (row (suc j)).0) 0 249 ≡ true
unfolding every printed
printed_order = refl

tried : (j : ℕ) → j < 250 → agree (on_bits (row j).1) (bit_of (row j).0) ≡ true
unfolding every value inputs printed
tried j h = every-at (λ j. agree (on_bits (row j).1) (bit_of (row j).0)) 0 250 refl j zero-le h

-- each of them is the raster byte of its code
pub appendix_e : (j p s d : ℕ) → j < length printed → p < 256 → s < 256 → d < 256 → value 255 (inputs (λ k. 0) p s d) (row j).1 ≡ raster (row j).0 p s d
appendix_e j p s d hj hp hs hd =
    value-raster (row j).1 (λ k. 0) (row j).0 p s d (λ k. lit< tt) hp hs hd (λ i l.
    rw (zero_bit i)
    (agree_at (on_bits (row j).1) (bit_of (row j).0) (tried j (rw printed-rows at hj)) (bit i p) (bit i s) (bit i d) (bit_small i p) (bit_small i s) (bit_small i d)))
