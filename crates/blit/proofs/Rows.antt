-- The lines of an accepted transfer: what the code works out is where each lies, each fits, with its source and the pattern
-- bytes that it uses, and done from its lowest addresses it is the definition's line. Assumes nothing.
use mathlib.Core.Path.{◌≡◌, refl, sym, ap, ◌∙◌}
use mathlib.Core.Bool.{Bool, true, false, cond, ◌&&◌}
use mathlib.Core.List.{List}
use Prim.Native.Nat.{ℕ, ◌+◌, ◌-◌, ◌*◌, ◌%◌, ◌^◌, ◌≤◌, ◌<◌}
use native.Mathlib.Nat.{add-mul, zero-mul}
use native.Mathlib.Omega.{arith}
use lib.Dec.{ltb}
use lib.ListN.{get_or}
use borrow.Author.Tests.{ltb-true}
use Rattle.std.proofs.lemmas.Bool.{and_parts}
use Rattle.blit_raster.specs.Raster.{uses_source, uses_pattern}
use Rattle.memory.specs.Memory.{length_allowed}
use Rattle.memory.proofs.Laws.{allowed}
use Rattle.blit_frame.specs.declared.Area.{Area}
use Rattle.blit_frame.specs.declared.Transfer.{Transfer}
use Rattle.blit_frame.specs.Frame.{place, pattern_line, pattern_place, in_range, every_byte, within, is_in_memory, accepted}
use Rattle.blit_frame.specs.Lines.{Ranges, moved, byte_at, low_of, line_low, pattern_low}
use Rattle.blit_frame.proofs.Flags.{on}
use Rattle.blit_frame.proofs.Numbers.{bytes-at}
use Rattle.blit_frame.proofs.Areas.{ranges, line_back, low_back, place_at_lem, line-fits, destination_in, source_in, pattern_in, line_low-is, pattern_line-is, pattern_begins_in}
use Rattle.blit.specs.Transfer.{byte_done, in_turn, line_done}
use Rattle.blit.specs.Working.{line_byte, lines_below, source_low, source_span, pattern_first}
use Rattle.blit.proofs.Turns.{in_turn-same}
use Rattle.blit.proofs.Parts.{when}

-- what it is to be accepted
module _ (n : ℕ) (t : Transfer) (yes-so : accepted n t ≡ true) where
  first_two : (length_allowed n ≡ true) × (in_range t ≡ true)
  first_two = and_parts _ _ (and_parts (length_allowed n && in_range t) _ yes-so).0

  pub sizes : (4096 ≤ n) × (n ≤ 2097152)
  sizes = allowed n first_two.0

  pub in_ranges : Ranges t
  in_ranges = ranges t first_two.1

  pub in_memory_lem : is_in_memory n t ≡ true
  in_memory_lem = (and_parts (length_allowed n && in_range t) _ yes-so).1

  pub lowest_line : lines_below t 0 < t.height
  lowest_line = by t.upward
    where
      by : (b : Bool) → cond b (t.height - 1 - 0) 0 < t.height
      by true = omega (arith, in_ranges.high)
      by false = in_ranges.high

-- where a line lies, from where the lowest line does
up_above : (l : Bool) (a x y z w : ℕ) → z ≡ x + y → z ≤ a → cond l w 0 ≤ moved true a z
    → moved l (moved true a z) (cond l w 0) + y ≡ moved l (moved true a x) (cond l w 0)
up_above true a x y z w e h g = omega arith
up_above false a x y z w e h g = omega arith

down_above : (l : Bool) (a y z w : ℕ) → z ≡ 0 → cond l w 0 ≤ moved false a z
    → moved l (moved false a z) (cond l w 0) + y ≡ moved l (moved false a y) (cond l w 0)
down_above true a y z w e g = omega arith
down_above false a y z w e g = omega arith

above : (l u : Bool) (a s w h r : ℕ) → r < h → cond u (cond u (h - 1 - 0) 0 * s) 0 ≤ a → cond l (w - 1) 0 ≤ moved u a (cond u (h - 1 - 0) 0 * s)
    → low_of l u a s w (cond u (h - 1 - 0) 0) + cond u (h - 1 - r) r * s ≡ low_of l u a s w r
above l true a s w h r hr k g =
    let e : h - 1 - 0 ≡ r + (h - 1 - r) = omega arith in
    up_above l a (r * s) ((h - 1 - r) * s) ((h - 1 - 0) * s) (w - 1) (ap (λ (x : ℕ). x * s) e ∙ add-mul r (h - 1 - r) s) k g
above l false a s w h r hr k g = down_above l a (r * s) (0 * s) (w - 1) (zero-mul s) g

module _ (n : ℕ) (t : Transfer) (yes-so : accepted n t ≡ true) (r : ℕ) (hr : r < t.height) where
  rs : Ranges t
  rs = in_ranges n t yes-so

  ok : is_in_memory n t ≡ true
  ok = in_memory_lem n t yes-so

  abbrev D : ℕ
  D = line_low t t.destination r

  -- the places that the code works out
  pub destination_low : low_of t.leftward t.upward (t.destination.address % 2 ^ 32) (t.destination.span % 2 ^ 32) (t.width % 2 ^ 32) (r % 2 ^ 32) ≡ D
  destination_low = line_low-is n t t.destination rs (sizes n t yes-so).1 rs.close (destination_in n t ok) r hr

  pub source_low_lem : cond (uses_source t.code) (low_of t.leftward t.upward (t.source.address % 2 ^ 32) (t.source.span % 2 ^ 32) (t.width % 2 ^ 32) (r % 2 ^ 32)) D ≡ source_low t r
  source_low_lem =
      on (λ (b : Bool). cond b (low_of t.leftward t.upward (t.source.address % 2 ^ 32) (t.source.span % 2 ^ 32) (t.width % 2 ^ 32) (r % 2 ^ 32)) D ≡ cond b (line_low t t.source r) D)
      (uses_source t.code) (λ e. line_low-is n t t.source rs (sizes n t yes-so).1 (rs.source_close e) (source_in n t ok e) r hr) (λ e. refl)

  pub pattern_low_lem : cond (uses_pattern t.code) (pattern_low t.upward (t.pattern_address % 2 ^ 32) t.pattern_row r) 0 ≡ pattern_first t r
  pattern_low_lem =
      on (λ (b : Bool). cond b (pattern_low t.upward (t.pattern_address % 2 ^ 32) t.pattern_row r) 0 ≡ cond b (pattern_line t r) 0) (uses_pattern t.code)
      (λ e.
      let p : t.pattern_address ≤ 2097152 = omega (arith, pattern_begins_in n t rs.wide rs.high (pattern_in n t ok e), (sizes n t yes-so).1) in
      pattern_line-is t p r)
      (λ e. refl)

  area_above : (a : Area) → every_byte t (within n t a) ≡ true → line_low t a (lines_below t 0) + lines_below t r * a.span ≡ line_low t a r
  area_above a e =
      let h = lowest_line n t yes-so in
      above t.leftward t.upward a.address a.span t.width t.height r hr (line_back n t a rs.wide e (lines_below t 0) h) (low_back n t a rs.wide e (lines_below t 0) h)

  pub destination_above : line_low t t.destination (lines_below t 0) + lines_below t r * t.destination.span ≡ D
  destination_above = area_above t.destination (destination_in n t ok)

  pub source_above : source_low t (lines_below t 0) + lines_below t r * source_span t ≡ source_low t r
  source_above =
      on (λ (b : Bool). cond b (line_low t t.source (lines_below t 0)) (line_low t t.destination (lines_below t 0)) + lines_below t r * cond b t.source.span t.destination.span ≡ cond b (line_low t t.source r) D)
      (uses_source t.code) (λ e. area_above t.source (source_in n t ok e)) (λ e. destination_above)

  pub source_close : source_span t ≤ 8191
  source_close = on (λ (b : Bool). cond b t.source.span t.destination.span ≤ 8191) (uses_source t.code) (λ e. rs.source_close e) (λ e. rs.close)

  pub destination_fits : D + t.width ≤ n
  destination_fits = line-fits n t t.destination rs.wide (destination_in n t ok) r hr

  destination_at : (c : ℕ) → c < t.width → place t t.destination r c ≡ byte_at t.leftward D t.width c
  destination_at = place_at_lem n t t.destination rs.wide (destination_in n t ok) r hr

  pub source_fits : source_low t r + t.width ≤ n
  source_fits =
      on (λ (b : Bool). cond b (line_low t t.source r) D + t.width ≤ n) (uses_source t.code)
      (λ e. line-fits n t t.source rs.wide (source_in n t ok e) r hr) (λ e. destination_fits)

  pub pattern_fits : (c : ℕ) → c < t.width → pattern_first t r + byte_at t.leftward D t.width c % 8 < n
  pattern_fits c hc =
      on (λ (b : Bool). cond b (pattern_line t r) 0 + byte_at t.leftward D t.width c % 8 < n) (uses_pattern t.code)
      (λ e.
      let h : pattern_place t r c < n = ltb-true _ _ (bytes-at t (λ r c. ltb (pattern_place t r c) n) r c hr hc (pattern_in n t ok e)) in
      rw (destination_at c hc) at h)
      (λ e. omega (arith, (sizes n t yes-so).0))

  byte-done : (c : ℕ) → c < t.width → (m : List ℕ)
      → line_byte t.code (uses_source t.code) (uses_pattern t.code) t.leftward D (source_low t r) (pattern_first t r) t.width c m
      ≡ byte_done t r c m
  unfolding line_byte byte_done
  byte-done c hc m =
      rw (
        when (uses_source t.code) (get_or m (byte_at t.leftward (source_low t r) t.width c) 0) (get_or m (place t t.source r c) 0) (λ e.
            ap (λ (x : ℕ). get_or m x 0)
            (ap (λ (b : Bool). byte_at t.leftward (cond b (line_low t t.source r) D) t.width c) e
            ∙ sym (place_at_lem n t t.source rs.wide (source_in n t ok e) r hr c hc))),
        when (uses_pattern t.code) (get_or m (pattern_first t r + byte_at t.leftward D t.width c % 8) 0)
            (get_or m (pattern_line t r + byte_at t.leftward D t.width c % 8) 0) (λ e.
            ap (λ (b : Bool). get_or m (cond b (pattern_line t r) 0 + byte_at t.leftward D t.width c % 8) 0) e),
        ← destination_at c hc,
      )

  pub line-done : (m : List ℕ)
      → in_turn t.width
      (line_byte t.code (uses_source t.code) (uses_pattern t.code) t.leftward D (source_low t r) (pattern_first t r) t.width) m
      ≡ line_done t r m
  unfolding line_done
  line-done m =
      in_turn-same t.width
      (line_byte t.code (uses_source t.code) (uses_pattern t.code) t.leftward D (source_low t r) (pattern_first t r) t.width)
      (λ c m. byte_done t r c m) byte-done m
