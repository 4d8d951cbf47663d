-- For the contracts of private functions alone: nothing here has to be believed. A line is given as in blit_frame's Lines; `Part`
-- says of two memories that one is the other with a stretch filled in.
use Rattle.std.specs.Prelude.{◌≡◌, Bool, true, false, cond, ◌⊎◌, List, ℕ, ◌+◌, ◌-◌, ◌%◌, ◌^◌, ◌≤◌, ◌<◌, length, get_or, set}
use Rattle.blit_raster.specs.Raster.{raster, uses_source, uses_pattern}
use Rattle.blit_frame.specs.Frame.{pattern_line}
use Rattle.blit_frame.specs.Lines.{byte_at, line_low}
use Rattle.blit_frame.specs.declared.Transfer.{Transfer}
use Rattle.blit.specs.declared.line.Line.{Line}

-- byte c of a line: its operands read where the line's lowest addresses d and s and its pattern's eight bytes p say
unfoldable pub line_byte : ℕ → Bool → Bool → Bool → ℕ → ℕ → ℕ → ℕ → ℕ → List ℕ → List ℕ
line_byte code source pattern left d s p w c m =
    set m (byte_at left d w c)
    (raster code (cond pattern (get_or m (p + byte_at left d w c % 8) 0) 0) (cond source (get_or m (byte_at left s w c) 0) 0)
    (get_or m (byte_at left d w c) 0))

-- that of a `Line`
abbrev pub byte_of : Line → ℕ → List ℕ → List ℕ
byte_of l = line_byte l.code (uses_source l.code) (uses_pattern l.code) l.left l.d l.s l.p l.w

-- how many lines lie below line r; the lowest is line `lines_below t 0`
abbrev pub lines_below : Transfer → ℕ → ℕ
lines_below t r = cond t.upward (t.height - 1 - r) r

-- the lowest address of line r of the source, and its span, or, for want of a source, those of the destination again; the
-- pattern's eight bytes
abbrev pub source_low : Transfer → ℕ → ℕ
source_low t r = cond (uses_source t.code) (line_low t t.source r) (line_low t t.destination r)

abbrev pub source_span : Transfer → ℕ
source_span t = cond (uses_source t.code) t.source.span t.destination.span

abbrev pub pattern_first : Transfer → ℕ → ℕ
pattern_first t r = cond (uses_pattern t.code) (pattern_line t r) 0

-- What byte k of a stretch becomes. The bytes from s on; the line from d on with its pattern in `pat` from f on; and with its
-- source in `src` besides.
abbrev pub bytes_from : ℕ → List ℕ → ℕ → ℕ
bytes_from s m = λ k. get_or m (s + k) 0

abbrev pub blended_byte : ℕ → Bool → Bool → ℕ → ℕ → ℕ → List ℕ → List ℕ → ℕ → ℕ
blended_byte code source pattern d s f pat m =
    λ k. raster code (cond pattern (get_or pat (f + k) 0) 0) (cond source (get_or m (s + k) 0) 0) (get_or m (d + k) 0)

abbrev pub taken_byte : ℕ → Bool → ℕ → ℕ → List ℕ → List ℕ → List ℕ → ℕ → ℕ
taken_byte code pattern d f pat src m = λ k. raster code (cond pattern (get_or pat (f + k) 0) 0) (get_or src k 0) (get_or m (d + k) 0)

-- what the line becomes where it reads nothing that it has written
abbrev pub becomes : ℕ → Bool → Bool → ℕ → ℕ → ℕ → List ℕ → ℕ → ℕ
becomes code source pattern d s p m =
    λ k. raster code (cond pattern (get_or m (p + (d + k) % 8) 0) 0) (cond source (get_or m (s + k) 0) 0) (get_or m (d + k) 0)

-- that of a `Line`
abbrev pub becomes_of : Line → List ℕ → ℕ → ℕ
becomes_of l = becomes l.code (uses_source l.code) (uses_pattern l.code) l.d l.s l.p

-- m' is m with byte k from `low` on being u k, for k from i to j
pub record Part (low : ℕ) (u : ℕ → ℕ) (i j : ℕ) (m m' : List ℕ) : Type 0 where
  pub same : length m' ≡ length m
  pub done : (k : ℕ) → i ≤ k → k < j → get_or m' (low + k) 0 ≡ u k
  pub below : (x : ℕ) → x < low + i → get_or m' x 0 ≡ get_or m x 0
  pub above : (x : ℕ) → low + j ≤ x → get_or m' x 0 ≡ get_or m x 0

-- w bytes from d and w bytes from s have none in common
abbrev pub Apart : ℕ → ℕ → ℕ → Type 0
Apart d s w = (d + w ≤ s) ⊎ (s + w ≤ d)

-- no byte of the source is written before it is read
abbrev pub SourceStill : Bool → ℕ → ℕ → ℕ → Type 0
SourceStill true d s w = (s ≤ d) ⊎ (d + w ≤ s)
SourceStill false d s w = (d ≤ s) ⊎ (s + w ≤ d)

-- the line writes none of the eight bytes from p, which are all in a memory of n bytes
pub record PatternStill (n d p w : ℕ) : Type 0 where
  pub whole : p + 8 ≤ n
  pub apart : (p + 8 ≤ d) ⊎ (d + w ≤ p)

-- a line and its source lie in a memory of n bytes
pub record LiesIn (n : ℕ) (l : Line) : Type 0 where
  pub destination : l.d + l.w ≤ n
  pub source : l.s + l.w ≤ n
  pub small : n < 2 ^ 62

-- and the pattern bytes that it uses; it has pattern address 0 where it uses none
pub record PatternIn (n : ℕ) (l : Line) : Type 0 where
  pub begins : l.p < 2 ^ 62
  pub bytes : (c : ℕ) → c < l.w → l.p + byte_at l.left l.d l.w c % 8 < n

-- the buffers hold a line's pattern, laid out, and its source
pub record Room (w : ℕ) (pat src : List ℕ) : Type 0 where
  pub pattern : w + 8 ≤ length pat
  pub tiles : 16 ≤ length pat
  pub source : w ≤ length src
