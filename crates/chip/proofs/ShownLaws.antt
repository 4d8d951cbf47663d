-- The colour that a pixel shows. Document 01, "Palette": the entry at p AND PALMASK, and in six-bit mode four times each
-- component modulo 64, else the stored bytes; chapter 13, PALMASK, for the AND. The entry is said by its bits: it is the one
-- whose number has just the bits that the pixel and PALMASK both have.
use Rattle.std.proofs.Common.{◌≡◌, ℕ, zero, suc, ◌*◌, ◌%◌, ◌<◌, ◌≤◌, true, false, sym, refl, ◌∙◌, mul_comm, arith}
use lib.Bits.{bit_and, and_le_l}
use Rattle.lists.specs.Bits.{bit}
use Rattle.lists.proofs.Bits.{bit-and}
use Rattle.chip_registers.proofs.WriteLaws.{same_bits}
use Rattle.chip_registers.specs.declared.Group.TheVariants.{Palmask}
use Rattle.chip.specs.State.{Named}
use Rattle.chip.specs.Names.{register, eight_bit}
use Rattle.chip.specs.Palette.{rgb, entry, shown}

-- the AND of two digits is their product
and_product : (a b : ℕ) → a < 2 → b < 2 → bit_and a b ≡ a * b
and_product zero b ha hb = omega arith
and_product (suc zero) zero ha hb = refl
and_product (suc zero) (suc zero) ha hb = refl
and_product (suc zero) (suc (suc b)) ha hb = absurd (omega arith)
and_product (suc (suc a)) b ha hb = absurd (omega arith)

module _ (n : Named) (p e : ℕ) (pixel : p < 0x100) (number : e < 0x100)
    (both : (k : ℕ) → k < 8 → bit k e ≡ bit k p * bit k (register Palmask n 0x00)) where
  picked : bit_and p n.palmask ≡ e
  picked =
      let less : bit_and p n.palmask ≤ p = and_le_l p n.palmask in
      same_bits (bit_and p n.palmask) e (omega arith) number
      (λ k hk. bit-and k p n.palmask ∙ and_product (bit k p) (bit k n.palmask) (omega arith) (omega arith) ∙ sym (both k hk))

  -- in eight-bit mode the pixel shows the stored bytes
  pub shown-eight : eight_bit n ≡ true → shown n p ≡ entry n e
  unfolding shown
  shown-eight eight = rw (picked, eight)

  -- in six-bit mode it shows four times each of them modulo 64
  pub shown-six : eight_bit n ≡ false → shown n p ≡ rgb (4 * ((entry n e).red % 64)) (4 * ((entry n e).green % 64)) (4 * ((entry n e).blue % 64))
  unfolding shown
  shown-six six = rw (picked, six, mul_comm 4 ((entry n e).red % 64), mul_comm 4 ((entry n e).green % 64), mul_comm 4 ((entry n e).blue % 64))
