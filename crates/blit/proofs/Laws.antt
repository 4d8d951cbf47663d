-- Laws that show the definition of a transfer to be the right one: what it leaves alone; what it does not look at; and what each
-- byte becomes where none is written twice or read after it was written. The numbers' laws are crate
-- blit_frame's. Assumes nothing.
use mathlib.Core.Path.{◌≡◌, refl, sym, ap, ap₂, ◌∙◌}
use mathlib.Core.Bool.{Bool, true, false, cond, ◌&&◌, false≢true}
use mathlib.Core.List.{List}
use mathlib.Core.Logic.{◌≢◌}
use Prim.Native.Nat.{ℕ, ◌+◌, ◌<◌}
use native.Mathlib.Omega.{arith}
use lib.Dec.{leb}
use lib.ListN.{length, get_or, set, length-set}
use lib.Seq.{get_or-set_same, get_or-set_other, set-get_or}
use borrow.Author.Tests.{ltb-true}
use Rattle.lists.specs.Scan.{every}
use Rattle.std.proofs.lemmas.Bool.{and_parts}
use Rattle.blit_raster.specs.Raster.{raster, uses_source, uses_pattern}
use Rattle.blit_raster.proofs.Laws.{aah_destination, cch_source}
use Rattle.blit_frame.specs.declared.Area.{Area}
use Rattle.blit_frame.specs.declared.Transfer.{Transfer}
use Rattle.memory.specs.Memory.{length_allowed}
use Rattle.blit_frame.specs.Frame.{ahead, behind, place, pattern_place, in_range, every_byte, within, is_in_memory, accepted, judged, judged_number}
use Rattle.blit.specs.Transfer.{pattern_byte, source_byte, destination_byte, byte_done, in_turn, line_done, lines_done, transferred}
use Rattle.blit_frame.proofs.Numbers.{bytes-at, number_0_exactly}
use Rattle.blit.proofs.Turns.{in_turn_keeps, in_turn-still, in_turn-same, in_turn-at}

-- ---- what a transfer leaves alone

-- what a view of the memory does not see changed by the lines is not changed by the transfer
transferred_sees : (A : Type 0) (look : List ℕ → A) (m : List ℕ) (t : Transfer) → look (lines_done t m) ≡ look m → look (transferred m t) ≡ look m
unfolding transferred
transferred_sees A look m t e = by (accepted (length m) t)
  where
    by : (b : Bool) → look (cond b (lines_done t m) m) ≡ look m
    by true = e
    by false = refl

-- a transfer that is not accepted leaves the memory as it was
pub refused_keeps_memory : (m : List ℕ) (t : Transfer) → accepted (length m) t ≡ false → transferred m t ≡ m
unfolding transferred
refused_keeps_memory m t e = rw e

-- nor does one with another number than 0
pub refused-numbered : (m : List ℕ) (t : Transfer) → (judged_number (length m) t ≡ 0 → ⊥) → transferred m t ≡ m
refused-numbered m t other = refused_keeps_memory m t (not_accepted (accepted (length m) t) refl)
  where
    not_accepted : (b : Bool) → accepted (length m) t ≡ b → accepted (length m) t ≡ false
    not_accepted true e = absurd (other ((number_0_exactly (length m) t).1 e))
    not_accepted false e = e

lines_keep : (A : Type 0) (look : List ℕ → A) (t : Transfer) → ((r c : ℕ) → r < t.height → c < t.width → (m : List ℕ) → look (byte_done t r c m) ≡ look m)
    → (m : List ℕ) → look (lines_done t m) ≡ look m
unfolding lines_done line_done
lines_keep A look t h m =
    in_turn_keeps A look t.height (λ r m. line_done t r m) (λ r hr m. in_turn_keeps A look t.width (λ c m. byte_done t r c m) (λ c hc m. h r c hr hc m) m) m

pub length-transferred : (m : List ℕ) (t : Transfer) → length (transferred m t) ≡ length m
unfolding byte_done
length-transferred m t = transferred_sees ℕ length m t (lines_keep ℕ length t (λ r c hr hc m. simp length-set) m)

-- a transfer changes only destination bytes
pub transferred_elsewhere : (m : List ℕ) (t : Transfer) (x : ℕ)
    → ((r c : ℕ) → r < t.height → c < t.width → x ≢ place t t.destination r c) → get_or (transferred m t) x 0 ≡ get_or m x 0
unfolding byte_done
transferred_elsewhere m t x h =
    transferred_sees ℕ (λ m. get_or m x 0) m t
    (lines_keep ℕ (λ m. get_or m x 0) t (λ r c hr hc m. get_or-set_other m (place t t.destination r c) x _ 0 (h r c hr hc)) m)

-- code AAh leaves memory as it is
pub aah_keeps_memory : (m : List ℕ) (t : Transfer) → t.code ≡ 0xAA → ((x : ℕ) → get_or m x 0 < 256) → transferred m t ≡ m
unfolding lines_done line_done byte_done
aah_keeps_memory m t e small =
    transferred_sees (List ℕ) (λ m. m) m t
    (in_turn-still t.height (λ r m. line_done t r m) m (λ r hr. in_turn-still t.width (λ c m. byte_done t r c m) m (λ c hc.
    let d : ℕ = place t t.destination r c in
    let v : raster t.code (pattern_byte t r c m) (source_byte t r c m) (destination_byte t r c m) ≡ destination_byte t r c m =
    ap (λ (k : ℕ). raster k (pattern_byte t r c m) (source_byte t r c m) (destination_byte t r c m)) e
    ∙ aah_destination (pattern_byte t r c m) (source_byte t r c m) (destination_byte t r c m) (small d) in
    ap (set m d) v ∙ set-get_or m d 0)))

-- ---- what it does not look at

-- the same transfer with another source, or with another pattern address and row
abbrev pub with_source : Area → Transfer → Transfer
with_source a t =
    record {
      destination = t.destination;
      source = a;
      width = t.width;
      height = t.height;
      code = t.code;
      leftward = t.leftward;
      upward = t.upward;
      pattern_address = t.pattern_address;
      pattern_row = t.pattern_row;
    }

abbrev pub with_pattern : ℕ → ℕ → Transfer → Transfer
with_pattern p q t =
    record {
      destination = t.destination;
      source = t.source;
      width = t.width;
      height = t.height;
      code = t.code;
      leftward = t.leftward;
      upward = t.upward;
      pattern_address = p;
      pattern_row = q;
    }

-- two transfers of one width and height, each of whose bytes is the same, are the same
lines_same : (t u : Transfer) → t.height ≡ u.height → t.width ≡ u.width → ((r c : ℕ) (m : List ℕ) → byte_done t r c m ≡ byte_done u r c m)
    → (m : List ℕ) → lines_done t m ≡ lines_done u m
unfolding lines_done line_done
lines_same t u eh ew h m =
    in_turn-same t.height (λ r m. line_done t r m) (λ r m. line_done u r m) (λ r hr m.
    in_turn-same t.width (λ c m. byte_done t r c m) (λ c m. byte_done u r c m) (λ c hc m. h r c m) m
    ∙ ap (λ (w : ℕ). in_turn w (λ c m. byte_done u r c m) m) ew) m
    ∙ ap (λ (n : ℕ). in_turn n (λ r m. line_done u r m) m) eh

module _ (m : List ℕ) (t : Transfer) where
  module _ (e : uses_source t.code ≡ false) (a : Area) where
    pub source_not_looked_at : judged (length m) (with_source a t) ≡ judged (length m) t
    unfolding judged in_range is_in_memory
    source_not_looked_at = rw e

    pub source_changes_nothing : transferred m (with_source a t) ≡ transferred m t
    unfolding transferred in_range is_in_memory byte_done
    source_changes_nothing = rw (e, lines_same (with_source a t) t refl refl (λ r c m. rw e) m)

  module _ (e : uses_pattern t.code ≡ false) (p q : ℕ) where
    pub pattern_not_looked_at : judged (length m) (with_pattern p q t) ≡ judged (length m) t
    unfolding judged in_range is_in_memory
    pattern_not_looked_at = rw e

    pub pattern_changes_nothing : transferred m (with_pattern p q t) ≡ transferred m t
    unfolding transferred in_range is_in_memory byte_done
    pattern_changes_nothing = rw (e, lines_same (with_pattern p q t) t refl refl (λ r c m. rw e) m)

  -- F0h looks at no source
  pub f0h_no_source : t.code ≡ 0xF0 → (a : Area) → (judged (length m) (with_source a t) ≡ judged (length m) t) × (transferred m (with_source a t) ≡ transferred m t)
  unfolding every uses_source
  f0h_no_source e a = let u : uses_source t.code ≡ false = ap uses_source e in (source_not_looked_at u a, source_changes_nothing u a)

-- ---- what each byte becomes

-- no destination byte is visited twice
abbrev pub Once : Transfer → Type 0
Once t =
    (r c r' c' : ℕ) → r < t.height → c < t.width → r' < t.height → c' < t.width
    → place t t.destination r c ≡ place t t.destination r' c' → (r ≡ r') × (c ≡ c')

-- no destination byte is one of an operand's bytes
abbrev pub NotOf : Transfer → (ℕ → ℕ → ℕ) → Type 0
NotOf t at = (r c r' c' : ℕ) → r < t.height → c < t.width → r' < t.height → c' < t.width → at r c ≢ place t t.destination r' c'

when-read : (b : Bool) (x y : ℕ) → (b ≡ true → x ≡ y) → cond b x 0 ≡ cond b y 0
when-read true x y h = h refl
when-read false x y h = refl

module _ (m : List ℕ) (t : Transfer) (ok : accepted (length m) t ≡ true) (once : Once t)
    (source-apart : uses_source t.code ≡ true → NotOf t (place t t.source)) (pattern-apart : uses_pattern t.code ≡ true → NotOf t (pattern_place t))
    (r c : ℕ) (hr : r < t.height) (hc : c < t.width) where
  -- the memory when this byte's turn comes
  before : List ℕ
  before = in_turn c (λ c m. byte_done t r c m) (in_turn r (λ r m. line_done t r m) m)

  -- is at x as it was, where x is no destination byte, or this one
  before_at : (x : ℕ) → ((r' c' : ℕ) → r' < t.height → c' < t.width → x ≡ place t t.destination r' c' → (r ≡ r') × (c ≡ c')) → get_or before x 0 ≡ get_or m x 0
  unfolding before line_done byte_done
  before_at x h =
      in_turn_keeps ℕ (λ m. get_or m x 0) c (λ c m. byte_done t r c m) (λ c' l m. get_or-set_other m (place t t.destination r c') x _ 0 (λ q. omega (arith, (h r c' hr (omega arith) q).1)))
      (in_turn r (λ r m. line_done t r m) m)
      ∙ in_turn_keeps ℕ (λ m. get_or m x 0) r (λ r m. line_done t r m) (λ r' l m.
      in_turn_keeps ℕ (λ m. get_or m x 0) t.width (λ c m. byte_done t r' c m) (λ c' l' m. get_or-set_other m (place t t.destination r' c') x _ 0 (λ q. omega (arith, (h r' c' (omega arith) l' q).0))) m) m

  length_before : length before ≡ length m
  unfolding before line_done byte_done
  length_before =
      in_turn_keeps ℕ length c (λ c m. byte_done t r c m) (λ c' l m. simp length-set) (in_turn r (λ r m. line_done t r m) m)
      ∙ in_turn_keeps ℕ length r (λ r m. line_done t r m) (λ r' l m. in_turn_keeps ℕ length t.width (λ c m. byte_done t r' c m) (λ c' l' m. simp length-set) m) m

  in_place : place t t.destination r c < length m
  unfolding is_in_memory
  in_place =
      let g = (and_parts (length_allowed (length m) && in_range t) _ ok).1 in
      let d = (and_parts (every_byte t (within (length m) t t.destination)) _ (and_parts _ _ g).0).0 in
      ltb-true _ _ (and_parts (leb (behind t t.destination r c) (t.destination.address + ahead t t.destination r c)) _ (bytes-at t (within (length m) t t.destination) r c hr hc d)).1

  -- where no byte is written twice or read after it was written, each destination byte becomes the raster byte of the memory as
  -- it was
  pub byte-becomes : get_or (transferred m t) (place t t.destination r c) 0 ≡ raster t.code (pattern_byte t r c m) (source_byte t r c m) (destination_byte t r c m)
  unfolding transferred lines_done line_done byte_done before
  byte-becomes =
      let x : ℕ = place t t.destination r c in
      let p : pattern_byte t r c before ≡ pattern_byte t r c m =
      when-read (uses_pattern t.code) _ _ (λ u. before_at (pattern_place t r c) (λ r' c' h k q. absurd (pattern-apart u r c r' c' hr hc h k q))) in
      let s : source_byte t r c before ≡ source_byte t r c m =
      when-read (uses_source t.code) _ _ (λ u. before_at (place t t.source r c) (λ r' c' h k q. absurd (source-apart u r c r' c' hr hc h k q))) in
      let d : destination_byte t r c before ≡ destination_byte t r c m = before_at x (λ r' c' h k q. once r c r' c' hr hc h k q) in
      let hx : x < length before = omega (arith, length_before, in_place) in
      let v : raster t.code (pattern_byte t r c before) (source_byte t r c before) (destination_byte t r c before) ≡ raster t.code (pattern_byte t r c m) (source_byte t r c m) (destination_byte t r c m) =
      ap₂ (λ (a b : ℕ). raster t.code a b (destination_byte t r c before)) p s ∙ ap (raster t.code (pattern_byte t r c m) (source_byte t r c m)) d in
      rw ok
      (in_turn-at t.height (λ r m. line_done t r m) m x _ r hr
      (in_turn-at t.width (λ c m. byte_done t r c m) (in_turn r (λ r m. line_done t r m) m) x _ c hc
      (get_or-set_same before x _ 0 hx ∙ v)
      (λ j l h m. get_or-set_other m (place t t.destination r j) x _ 0 (λ q. omega (arith, (once r c r j hr hc hr h q).1))))
      (λ j l h m. in_turn_keeps ℕ (λ m. get_or m x 0) t.width (λ c m. byte_done t j c m) (λ c' l' m.
      get_or-set_other m (place t t.destination j c') x _ 0 (λ q. omega (arith, (once r c j c' hr hc h l' q).0))) m))

-- code CCh between areas that do not overlap copies
pub cch_copies : (m : List ℕ) (t : Transfer) → t.code ≡ 0xCC → ((x : ℕ) → get_or m x 0 < 256) → accepted (length m) t ≡ true → Once t → NotOf t (place t t.source)
    → (r c : ℕ) → r < t.height → c < t.width → get_or (transferred m t) (place t t.destination r c) 0 ≡ get_or m (place t t.source r c) 0
unfolding every uses_source uses_pattern
cch_copies m t e small ok once apart r c hr hc =
    let s : uses_source t.code ≡ true = ap uses_source e in
    let p : uses_pattern t.code ≡ false = ap uses_pattern e in
    byte-becomes m t ok once (λ u. apart) (λ u. absurd (false≢true (sym p ∙ u))) r c hr hc
    ∙ ap₂ (λ (k x : ℕ). raster k (pattern_byte t r c m) x (destination_byte t r c m)) e (ap (λ (b : Bool). cond b (get_or m (place t t.source r c) 0) 0) s)
    ∙ cch_source (pattern_byte t r c m) (get_or m (place t t.source r c) 0) (destination_byte t r c m) (small (place t t.source r c))
