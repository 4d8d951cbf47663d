-- Document 01, "Set-ups to try": the cases marked * in one table, a row to a line. That every row holds is one statement,
-- `starred_hold`, and that these are document 01's starred cases another, in proofs/Holding.
use Rattle.std.specs.Prelude.{ℕ, Bool, true, false, List, [], ◌∷◌}
use Rattle.chip_registers.specs.declared.Group.TheVariants.{Cr, Xr}
use Rattle.blit_frame.specs.declared.Transfer.{Transfer}
use Rattle.script_steps.specs.declared.Step.TheVariants.{Set, Field}
use Rattle.cases.specs.Cases.{Case, case, gets, reads, is, colour, shows, chip, raster-byte, moves, commands, check}

-- one line from a source to a destination, with no span and no pattern
abbrev pub one_line : ℕ → Bool → ℕ → ℕ → ℕ → Transfer
one_line code leftward width source destination = record {
  destination = record { address = destination; span = 0 };
  source = record { address = source; span = 0 };
  width = width;
  height = 1;
  code = code;
  leftward = leftward;
  upward = false;
  pattern_address = 0;
  pattern_row = 0;
}

unfoldable pub starred : List Case
starred =
    -- 1. XR60, XR67, MR1F written FFh read 43h, 02h, EBh.
    case 1 (chip 0x02 0x00
    (gets 0x3D6 0x60 ∷ gets 0x3D7 0xFF ∷ reads 0x3D7 0x43
    ∷ gets 0x3D6 0x67 ∷ gets 0x3D7 0xFF ∷ reads 0x3D7 0x02
    ∷ gets 0x3D2 0x1F ∷ gets 0x3D3 0xFF ∷ reads 0x3D3 0xEB ∷ []))
    -- 2. First pin byte 02h: XR70 reads 03h.
    ∷ case 2 (chip 0x02 0x00 (gets 0x3D6 0x70 ∷ reads 0x3D7 0x03 ∷ []))
    -- 4. CR07 = 00h, CR11 = 80h, then FFh to CR07: it reads 10h.
    ∷ case 4 (chip 0x02 0x00
    (gets 0x3B4 0x07 ∷ gets 0x3B5 0x00 ∷ is Cr 0x07 0x00
    ∷ gets 0x3B4 0x11 ∷ gets 0x3B5 0x80 ∷ is Cr 0x11 0x80
    ∷ gets 0x3B4 0x07 ∷ gets 0x3B5 0xFF ∷ reads 0x3B5 0x10 ∷ []))
    -- 6. 3D6h gets 61h, 3D7h gets 08h, 3D7h gets 43h: XR61 is 43h, XR60 is 00h. It starts with XR60 = XR61 = 00h.
    ∷ case 6 (chip 0x02 0x00
    (is Xr 0x60 0x00 ∷ is Xr 0x61 0x00
    ∷ gets 0x3D6 0x61 ∷ gets 0x3D7 0x08 ∷ gets 0x3D7 0x43
    ∷ is Xr 0x61 0x43 ∷ is Xr 0x60 0x00 ∷ []))
    -- 7. Six-bit mode, PALMASK FFh, 3C8h gets 255, data 63, 0, 21, 255, 2, 3: entry 255 is (63, 0, 21), shown 252, 0, 84; entry 0
    -- is (63, 2, 3).
    ∷ case 7 (chip 0x02 0x00
    (is Xr 0x80 0x00 ∷ gets 0x3C6 0xFF ∷ gets 0x3C8 255
    ∷ gets 0x3C9 63 ∷ gets 0x3C9 0 ∷ gets 0x3C9 21 ∷ gets 0x3C9 255 ∷ gets 0x3C9 2 ∷ gets 0x3C9 3
    ∷ colour 255 63 0 21 ∷ shows 255 252 0 84 ∷ colour 0 63 2 3 ∷ []))
    -- 8. P = F0h, S = CCh, D = AAh: code B8h gives B8h.
    ∷ case 8 (raster-byte 0xF0 0xCC 0xAA 0xB8 0xB8)
    -- 9. Bytes 1, 2, 3, 4, 5 at 0; code CCh, width 4, height 1, source 0, destination 1, forward: 1, 1, 1, 1, 1.
    ∷ case 9 (moves (1 ∷ 2 ∷ 3 ∷ 4 ∷ 5 ∷ []) (one_line 0xCC false 4 0 1) (1 ∷ 1 ∷ 1 ∷ 1 ∷ 1 ∷ []))
    -- 10. The same backward, source 3, destination 4: 1, 1, 2, 3, 4.
    ∷ case 10 (moves (1 ∷ 2 ∷ 3 ∷ 4 ∷ 5 ∷ []) (one_line 0xCC true 4 3 4) (1 ∷ 1 ∷ 2 ∷ 3 ∷ 4 ∷ []))
    -- 12. FIELD XR80, mask 80h, value 80h: 01 D6 03 80, 02 D7 03 00, 03 7F 80 00, 04 D7 03 00.
    ∷ case 12 (commands (Field 3 0x80 0x80 0x80)
    (0x01 ∷ 0xD6 ∷ 0x03 ∷ 0x80 ∷ 0x02 ∷ 0xD7 ∷ 0x03 ∷ 0x00 ∷ 0x03 ∷ 0x7F ∷ 0x80 ∷ 0x00 ∷ 0x04 ∷ 0xD7 ∷ 0x03 ∷ 0x00 ∷ []))
    -- 13. One block, SET XR60 43h: the check is B89Fh.
    ∷ case 13 (check (Set 3 0x60 0x43) 0xB89F)
    ∷ []
