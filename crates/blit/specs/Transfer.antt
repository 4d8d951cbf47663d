-- What a block transfer of document 01, "Video memory and block transfers", does to the memory, one byte at a time. Where its
-- bytes lie and when it is done is said in crate blit_frame; the raster code is the crate blit_raster's.
use Rattle.std.specs.Prelude.{ℕ, zero, suc, cond, List, length, get_or, set}
use Rattle.blit_raster.specs.Raster.{raster, uses_source, uses_pattern}
use Rattle.blit_frame.specs.Frame.{place, pattern_place, accepted}
use Rattle.blit_frame.specs.declared.Transfer.{Transfer}

-- the operands of byte c of line r, in the memory as it then stands (HOUSE); one on which the code does not depend is not
-- looked at
abbrev pub pattern_byte : Transfer → ℕ → ℕ → List ℕ → ℕ
pattern_byte t r c m = cond (uses_pattern t.code) (get_or m (pattern_place t r c) 0) 0

abbrev pub source_byte : Transfer → ℕ → ℕ → List ℕ → ℕ
source_byte t r c m = cond (uses_source t.code) (get_or m (place t t.source r c) 0) 0

abbrev pub destination_byte : Transfer → ℕ → ℕ → List ℕ → ℕ
destination_byte t r c m = get_or m (place t t.destination r c) 0

unfoldable pub byte_done : Transfer → ℕ → ℕ → List ℕ → List ℕ
byte_done t r c m =
    set m (place t t.destination r c)
    (raster t.code (pattern_byte t r c m) (source_byte t r c m) (destination_byte t r c m))

-- the first n of some changes, one after the other
unfoldable pub in_turn : ℕ → (ℕ → List ℕ → List ℕ) → List ℕ → List ℕ
in_turn zero f m = m
in_turn (suc n) f m = f n (in_turn n f m)

-- bytes are done one at a time, line by line (HOUSE)
unfoldable pub line_done : Transfer → ℕ → List ℕ → List ℕ
line_done t r m = in_turn t.width (λ c m. byte_done t r c m) m

unfoldable pub lines_done : Transfer → List ℕ → List ℕ
lines_done t m = in_turn t.height (λ r m. line_done t r m) m

-- a refusal leaves the memory as it was
unfoldable pub transferred : List ℕ → Transfer → List ℕ
transferred m t = cond (accepted (length m) t) (lines_done t m) m
