-- For code that works out where a line lies: nothing here has to be believed. A line is given by its lowest address, its width
-- and its direction. The numbers of an accepted transfer are far below 2^32 (laws `line_low-is` and `pattern_line-is`).
use Rattle.std.specs.Prelude.{Bool, true, cond, ◌≡◌, ℕ, ◌+◌, ◌-◌, ◌*◌, ◌%◌, ◌≤◌, ◌<◌}
use Rattle.blit_raster.specs.Raster.{uses_source}
use Rattle.blit_frame.specs.declared.Area.{Area}
use Rattle.blit_frame.specs.declared.Transfer.{Transfer}

-- a transfer's numbers in their ranges
pub record Ranges (t : Transfer) : Type 0 where
  pub wide : 1 ≤ t.width
  pub narrow : t.width ≤ 8191
  pub high : 1 ≤ t.height
  pub low : t.height ≤ 8191
  pub close : t.destination.span ≤ 8191
  pub source_close : uses_source t.code ≡ true → t.source.span ≤ 8191

-- an address moved back or ahead
abbrev pub moved : Bool → ℕ → ℕ → ℕ
moved back a x = a + cond back 0 x - cond back x 0

-- byte c of a line of w bytes from its lowest address on
abbrev pub byte_at : Bool → ℕ → ℕ → ℕ → ℕ
byte_at left low w c = low + cond left (w - 1 - c) c

-- the lowest address of line r, by the directions, of an area with this address and span and w bytes a line
abbrev pub low_of : Bool → Bool → ℕ → ℕ → ℕ → ℕ → ℕ
low_of left up address span w r = moved left (moved up address (r * span)) (cond left (w - 1) 0)

-- that of an area of a transfer
abbrev pub line_low : Transfer → Area → ℕ → ℕ
line_low t a r = low_of t.leftward t.upward a.address a.span t.width r

-- the pattern's eight bytes for line r
abbrev pub pattern_low : Bool → ℕ → ℕ → ℕ → ℕ
pattern_low up pattern row r = pattern + 8 * ((row + cond up (7 * r) r) % 8)

-- of the pattern's bytes for a line, one lies outside n bytes
pub record Missing (n d p w : ℕ) : Type 0 where
  pub at : ℕ
  pub used : at < w
  pub outside : n ≤ p + (d + at) % 8
