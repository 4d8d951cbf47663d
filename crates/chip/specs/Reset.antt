-- The state after a reset, which lends two pin bytes. Document 01, "Registers" and "Palette": XR70 is the first pin byte with bit
-- 0 made 1, XR71 is the second, XR08 bit 1 shows pin CFG1, which is XR70 bit 1; the palette's entries, its index and the held
-- bytes are 0 and the position is red (HOUSE), and the write index counts as written last (HOUSE). The indexes are 0: of CR, SR,
-- GR and XR the databook says so where it has their index registers (chapters 9, 10, 11 and 14), and for FR and MR, whose index
-- registers have no page, it is document 01's rule that a reset bit that is not given is 0 (HOUSE). Document 02, P1: the turn of
-- 3C0h is the index's; chapter 12 gives the attribute index no reset, so all of it is 0 by the same rule (HOUSE), and there is no
-- picture.
use Rattle.std.specs.Prelude.{ℕ, false, cond, replicate, ◌==◌, bit_and, bit_or}
use Rattle.lists.specs.Tab.{tab}
use Rattle.chip_registers.specs.Groups.{is, reset_of}
use Rattle.chip_registers.specs.declared.Group.{Group}
use Rattle.chip_registers.specs.declared.Group.TheVariants.{Cr, Sr, Gr, Xr, Fr, Mr, Msr, Palmask, Ar}
use Rattle.chip.specs.Palette.{rgb}
use Rattle.chip.specs.State.{Chip}

-- the byte that a reset leaves in a register
unfoldable pub reset_byte : ℕ → ℕ → Group → ℕ → ℕ
reset_byte first second g i =
    cond (is g Xr)
    (cond (i == 0x08) (bit_and first 0x02)
    (cond (i == 0x70) (bit_or first 0x01)
    (cond (i == 0x71) second
    (reset_of g i))))
    (reset_of g i)

unfoldable pub reset : ℕ → ℕ → Chip
reset first second = record {
  cr = tab (reset_byte first second Cr) 256;
  sr = tab (reset_byte first second Sr) 256;
  gr = tab (reset_byte first second Gr) 256;
  xr = tab (reset_byte first second Xr) 256;
  fr = tab (reset_byte first second Fr) 256;
  mr = tab (reset_byte first second Mr) 256;
  ar = tab (reset_byte first second Ar) 256;
  msr = reset_byte first second Msr 0x00;
  palmask = reset_byte first second Palmask 0x00;
  picture = false;
  palette = replicate 256 (rgb 0 0 0);
  indexes = record { cr = 0; sr = 0; gr = 0; xr = 0; fr = 0; mr = 0; ar = 0; turn = false };
  loading = record { index = 0; position = 0; red = 0; green = 0; reading = false };
}
