-- The write rule, bit for bit and once over the mask: a bit that the mask has comes from the byte written, every other bit
-- stays. A lock only takes bits away from the mask. Nothing here speaks of a particular register.
use Prim.Native.Nat.{ℕ, zero, suc, ◌-◌, ◌<◌, ◌≤◌}
use native.Mathlib.Omega.{arith}
use mathlib.Core.Bool.{Bool, true, false, cond}
use mathlib.Core.Path.{◌≡◌, refl, ap, ap₂, ◌∙◌}
use lib.Dec.{eqb}
use lib.Bits.{bit_and, bit_or, and_zero_r, or_zero_l, or_zero_r, and_zero_l, and_mask, or_lt, and_le_l}
use borrow.Author.Tests.{lt-ltb}
use Rattle.std.proofs.lemmas.Nat.Bits.{same_from_bits_below}
use Rattle.lists.specs.Bits.{bit, is_set}
use Rattle.chip_registers.specs.CrtController.{cr_lines}
use Rattle.chip_registers.specs.Groups.{row_of, writable_of}
use Rattle.chip_registers.specs.WriteRule.{left_open, writable_now, written}
use Rattle.chip_registers.specs.declared.Group.{Group}
use Rattle.chip_registers.specs.declared.Group.TheVariants.{Cr, Ar}
use Rattle.lists.proofs.Bits.{bit-and, bit-or, bit_complement}
use Rattle.chip_registers.proofs.TableLaws.{byte-rows}

one_digit : (o n m : ℕ) → o < 2 → n < 2 → m < 2 → bit_or (bit_and o (1 - m)) (bit_and n m) ≡ cond (eqb m 1) n o
one_digit o n zero ho hn hm = rw (and_zero_r n, or_zero_r (bit_and o 1), and_mask o 1) (omega arith)
one_digit o n (suc zero) ho hn hm = rw (and_zero_r o, or_zero_l (bit_and n 1), and_mask n 1) (omega arith)
one_digit o n (suc (suc m)) ho hn hm = absurd (omega arith)

-- the write rule
pub bit-written : (k old new mask : ℕ) → k < 8 → mask < 0x100 → bit k (written old new mask) ≡ cond (is_set k mask) (bit k new) (bit k old)
unfolding written
bit-written k old new mask hk hm =
    bit-or k (bit_and old (0xFF - mask)) (bit_and new mask)
    ∙ ap₂ bit_or (bit-and k old (0xFF - mask) ∙ ap (bit_and (bit k old)) (bit_complement k mask hk hm)) (bit-and k new mask)
    ∙ one_digit (bit k old) (bit k new) (bit k mask) (omega arith) (omega arith) (omega arith)

-- a mask without a bit writes nothing
pub written_none : (old new : ℕ) → old < 0x100 → written old new 0x00 ≡ old
unfolding written
written_none old new h = rw (and_zero_r new, or_zero_r (bit_and old 0xFF), and_mask old 8) (omega arith)

-- bytes stay bytes
pub written_byte : (old new mask : ℕ) → old < 0x100 → new < 0x100 → written old new mask < 0x100
unfolding written
written_byte old new mask ho hn =
    let a : bit_and old (0xFF - mask) ≤ old = and_le_l old (0xFF - mask) in
    let b : bit_and new mask ≤ new = and_le_l new mask in
    or_lt 8 (bit_and old (0xFF - mask)) (bit_and new mask) (omega arith) (omega arith)

-- two bytes that are the same bit for bit are the same
pub same_bits : (x y : ℕ) → x < 0x100 → y < 0x100 → ((k : ℕ) → k < 8 → bit k x ≡ bit k y) → x ≡ y
same_bits = same_from_bits_below 8

-- a lock takes bits away and gives none: a bit that is not writable is not writable now, and the mask of the moment is a byte
pub locked_fewer : (k : ℕ) (g : Group) (locked : Bool) (i : ℕ) → bit k (writable_of g i) ≡ 0 → bit k (writable_now g locked i) ≡ 0
unfolding writable_now
locked_fewer k g true i h = bit-and k (writable_of g i) (left_open g i) ∙ rw h (and_zero_l (bit k (left_open g i)))
locked_fewer k g false i h = h

pub byte_now : (g : Group) (locked : Bool) (i : ℕ) → writable_now g locked i < 0x100
unfolding writable_now
byte_now g true i =
    let w : writable_of g i < 0x100 = (byte-rows g i).0 in
    let h : bit_and (writable_of g i) (left_open g i) ≤ writable_of g i = and_le_l (writable_of g i) (left_open g i) in
    omega arith
byte_now g false i = (byte-rows g i).0

-- with the lock on, CR00 to CR06 have no writable bit, and CR07 has bit 4
pub cr00_to_cr06_locked : (i : ℕ) → i < 0x07 → writable_now Cr true i ≡ 0x00
unfolding writable_now left_open
cr00_to_cr06_locked i h = rw (lt-ltb _ _ h) (and_zero_r (writable_of Cr i))

pub cr07_bit_4_open : writable_now Cr true 0x07 ≡ 0x10
unfolding writable_now left_open row_of cr_lines
cr07_bit_4_open = refl

-- with the picture on, AR00 to AR0F have no writable bit
pub ar00_to_ar0_f_locked : (i : ℕ) → i < 0x10 → writable_now Ar true i ≡ 0x00
unfolding writable_now left_open
ar00_to_ar0_f_locked i h = rw (lt-ltb _ _ h) (and_zero_r (writable_of Ar i))
