-- Document 01, "Set-ups to try", case 11, computed with the definitions that the contracts cite, and the numbers beyond 32 bits.
-- The memory is the least that is allowed, 4,096 bytes.
use Prim.Native.Nat.{ℕ}
use mathlib.Core.Path.{◌≡◌, refl}
use mathlib.Core.Bool.{false}
use Rattle.lists.specs.Scan.{every}
use Rattle.blit_raster.specs.Raster.{uses_source, uses_pattern}
use Rattle.blit_frame.specs.declared.Transfer.{Transfer}
use Rattle.blit_frame.specs.Frame.{in_range, is_in_memory, judged_number}

-- a transfer of one line, with no span, from pattern row 0
unfoldable pub one_line : ℕ → ℕ → ℕ → ℕ → ℕ → Transfer
one_line code width source destination pattern =
    record {
      destination = record { address = destination; span = 0 };
      source = record { address = source; span = 0 };
      width = width;
      height = 1;
      code = code;
      leftward = false;
      upward = false;
      pattern_address = pattern;
      pattern_row = 0;
    }

-- 11. Memory 4,096, code F0h, pattern 0, destination 4,095, height 1, forward: width 1 done, width 2 number 4.
pub case_11 : judged_number 4096 (one_line 0xF0 1 0 4095 0) ≡ 0
unfolding every uses_source uses_pattern in_range is_in_memory judged_number one_line
case_11 = refl

pub case_11_wide : judged_number 4096 (one_line 0xF0 2 0 4095 0) ≡ 4
unfolding every uses_source uses_pattern in_range is_in_memory judged_number one_line
case_11_wide = refl

-- A number is whole: 2^32 + 8 is no place of the memory, and 2^32 + 1 no width.
pub whole_destination : judged_number 4096 (one_line 0xF0 1 0 4294967304 0) ≡ 4
unfolding every uses_source uses_pattern in_range is_in_memory judged_number one_line
whole_destination = refl

pub whole_source : judged_number 4096 (one_line 0xCC 1 4294967304 0 0) ≡ 4
unfolding every uses_source uses_pattern in_range is_in_memory judged_number one_line
whole_source = refl

pub whole_pattern : judged_number 4096 (one_line 0xF0 1 0 0 4294967296) ≡ 4
unfolding every uses_source uses_pattern in_range is_in_memory judged_number one_line
whole_pattern = refl

pub whole_width : judged_number 4096 (one_line 0xF0 4294967297 0 0 0) ≡ 5
unfolding every uses_source uses_pattern in_range is_in_memory judged_number one_line
whole_width = refl
