-- The bytes of an area lie in memory where its two outermost do; and what an area in memory gives of each of its lines: where its
-- lowest byte lies, where each of its bytes lies from there, and that the line fits. Assumes nothing.
use mathlib.Core.Path.{◌≡◌, refl, sym, ap, ap₂, ◌∙◌}
use mathlib.Core.Bool.{Bool, true, false, cond, not, ◌&&◌, ◌||◌, and-false}
use mathlib.Core.Logic.{⊎_elim}
use Prim.Native.Nat.{ℕ, ◌+◌, ◌-◌, ◌*◌, ◌%◌, ◌^◌, ◌≤◌, ◌<◌, zero-le}
use native.Mathlib.Nat.{zero-mul, mul-le-mul_right, le_refl}
use native.Mathlib.Omega.{arith}
use lib.Dec.{leb, ltb, eqb}
use borrow.Author.Tests.{le-leb, lt-leb, lt-ltb, le-ltb, leb-true, leb-false, ltb-true, ltb-false}
use Rattle.lists.specs.Scan.{every}
use Rattle.lists.proofs.Scan.{every_all, every_false}
use Rattle.std.proofs.lemmas.Bool.{and_parts}
use Rattle.std.specs.Cmp.Derive.{both_true}
use Rattle.blit_raster.specs.Raster.{uses_source, uses_pattern}
use Rattle.blit_frame.specs.declared.Area.{Area}
use Rattle.blit_frame.specs.declared.Transfer.{Transfer}
use Rattle.blit_frame.specs.Frame.{ahead, behind, place, within, every_byte, pattern_line, pattern_place, in_range, is_in_memory}
use Rattle.blit_frame.proofs.Numbers.{bytes_all, bytes-at, bytes_false}
use Rattle.blit_frame.specs.Lines.{Ranges, Missing, moved, byte_at, low_of, line_low, pattern_low}
use Rattle.blit_frame.proofs.Flags.{both_ways, if_so}

-- ---- the two outermost bytes

cond_mono : (b : Bool) (x y x' y' : ℕ) → x ≤ x' → y ≤ y' → cond b x y ≤ cond b x' y'
cond_mono true x y x' y' p q = p
cond_mono false x y x' y' p q = q

-- the outermost line and column on the side of the direction, or on the other
module _ (g : ℕ → ℕ) (g0 : g 0 ≡ 0) where
  back_in : (b : Bool) (x : ℕ) → cond b (g (cond b x 0)) 0 ≡ cond b (g x) 0
  back_in true x = refl
  back_in false x = refl

  back_out : (b : Bool) (x : ℕ) → cond b 0 (g (cond b x 0)) ≡ 0
  back_out true x = refl
  back_out false x = g0

  on_in : (b : Bool) (x : ℕ) → cond b 0 (g (cond b 0 x)) ≡ cond b 0 (g x)
  on_in true x = refl
  on_in false x = refl

  on_out : (b : Bool) (x : ℕ) → cond b (g (cond b 0 x)) 0 ≡ 0
  on_out true x = g0
  on_out false x = refl

cond_most : (b : Bool) (x y z : ℕ) → x ≤ z → y ≤ z → cond b x y ≤ z
cond_most true x y z p q = p
cond_most false x y z p q = q

module _ (n : ℕ) (t : Transfer) (a : Area) (hw : 1 ≤ t.width) (hh : 1 ≤ t.height) where
  abbrev W : ℕ
  W = t.width - 1

  abbrev H : ℕ
  H = t.height - 1

  all_in : behind t a H W ≤ a.address → a.address + ahead t a H W < n → every_byte t (within n t a) ≡ true
  all_in l u =
      bytes_all t (within n t a) (λ r c hr hc.
      let m : r * a.span ≤ H * a.span = mul-le-mul_right a.span (omega arith) in
      let p1 : cond t.leftward 0 c ≤ cond t.leftward 0 W = cond_mono t.leftward 0 c 0 W (le_refl 0) (omega arith) in
      let p2 : cond t.upward 0 (r * a.span) ≤ cond t.upward 0 (H * a.span) = cond_mono t.upward 0 (r * a.span) 0 (H * a.span) (le_refl 0) m in
      let p3 : cond t.leftward c 0 ≤ cond t.leftward W 0 = cond_mono t.leftward c 0 W 0 (omega arith) (le_refl 0) in
      let p4 : cond t.upward (r * a.span) 0 ≤ cond t.upward (H * a.span) 0 = cond_mono t.upward (r * a.span) 0 (H * a.span) 0 m (le_refl 0) in
      let lo : behind t a r c ≤ a.address + ahead t a r c = omega arith in
      let hi : place t a r c < n = omega arith in
      both_true (le-leb _ _ lo) (lt-ltb _ _ hi))

  below_zero : a.address < behind t a H W → every_byte t (within n t a) ≡ false
  below_zero l =
      let r = cond t.upward H 0 in
      let c = cond t.leftward W 0 in
      let hr : r < t.height = omega (arith, cond_most t.upward H 0 H (le_refl H) zero-le) in
      let hc : c < t.width = omega (arith, cond_most t.leftward W 0 W (le_refl W) zero-le) in
      let p1 = back_out (λ x. x) refl t.leftward W in
      let p2 = back_out (λ x. x * a.span) (zero-mul a.span) t.upward H in
      let p3 = back_in (λ x. x) refl t.leftward W in
      let p4 = back_in (λ x. x * a.span) (zero-mul a.span) t.upward H in
      let lo : a.address + ahead t a r c < behind t a r c = omega arith in
      bytes_false t (within n t a) r c hr hc (ap (λ (x : Bool). x && ltb (place t a r c) n) (lt-leb _ _ lo))

  past_end : n ≤ a.address + ahead t a H W → every_byte t (within n t a) ≡ false
  past_end l =
      let r = cond t.upward 0 H in
      let c = cond t.leftward 0 W in
      let hr : r < t.height = omega (arith, cond_most t.upward 0 H H zero-le (le_refl H)) in
      let hc : c < t.width = omega (arith, cond_most t.leftward 0 W W zero-le (le_refl W)) in
      let p1 = on_out (λ x. x) refl t.leftward W in
      let p2 = on_out (λ x. x * a.span) (zero-mul a.span) t.upward H in
      let p3 = on_in (λ x. x) refl t.leftward W in
      let p4 = on_in (λ x. x * a.span) (zero-mul a.span) t.upward H in
      let hi : n ≤ place t a r c = omega arith in
      bytes_false t (within n t a) r c hr hc
      (ap (λ (x : Bool). leb (behind t a r c) (a.address + ahead t a r c) && x) (le-ltb _ _ hi) ∙ and-false (leb (behind t a r c) (a.address + ahead t a r c)))

  pub outermost : (leb (behind t a H W) a.address && ltb (a.address + ahead t a H W) n) ≡ every_byte t (within n t a)
  outermost =
      ⊎_elim
      (λ e. ⊎_elim
      (λ f. ap₂ (λ (x y : Bool). x && y) e f ∙ sym (all_in (leb-true _ _ e) (ltb-true _ _ f)))
      (λ f. ap₂ (λ (x y : Bool). x && y) e f ∙ sym (past_end (ltb-false _ _ f)))
      (both_ways (ltb (a.address + ahead t a H W) n)))
      (λ e. ap (λ (x : Bool). x && ltb (a.address + ahead t a H W) n) e ∙ sym (below_zero (leb-false _ _ e)))
      (both_ways (leb (behind t a H W) a.address))

  -- the test of one of them, where the other has passed, and where it has not
  pub outermost_ahead : behind t a H W ≤ a.address → ltb (a.address + ahead t a H W) n ≡ every_byte t (within n t a)
  outermost_ahead h = rw (← outermost, le-leb _ _ h)

  pub outermost_behind : a.address < behind t a H W → leb (behind t a H W) a.address ≡ every_byte t (within n t a)
  outermost_behind h = lt-leb _ _ h ∙ sym (below_zero h)

-- ---- a line of an area in memory

first_back : (l u : Bool) (a x : ℕ) → cond l 0 0 + cond u x 0 ≤ a + (cond l 0 0 + cond u 0 x) → cond u x 0 ≤ a
first_back true true a x h = omega arith
first_back true false a x h = zero-le
first_back false true a x h = omega arith
first_back false false a x h = zero-le

last_back : (l u : Bool) (a x c : ℕ) → cond u x 0 ≤ a → cond l c 0 + cond u x 0 ≤ a + (cond l 0 c + cond u 0 x) → cond l c 0 ≤ moved u a x
last_back true true a x c k h = omega arith
last_back true false a x c k h = omega arith
last_back false true a x c k h = zero-le
last_back false false a x c k h = zero-le

from_low : (l u : Bool) (a x w c : ℕ) → c < w → cond u x 0 ≤ a → cond l (w - 1) 0 ≤ moved u a x
    → a + (cond l 0 c + cond u 0 x) - (cond l c 0 + cond u x 0) ≡ byte_at l (moved l (moved u a x) (cond l (w - 1) 0)) w c
from_low true true a x w c h k g = omega arith
from_low true false a x w c h k g = omega arith
from_low false true a x w c h k g = omega arith
from_low false false a x w c h k g = omega arith

low_fits : (l : Bool) (low w n : ℕ) → 1 ≤ w → byte_at l low w (cond l 0 (w - 1)) < n → low + w ≤ n
low_fits true low w n h k = omega arith
low_fits false low w n h k = omega arith

module _ (n : ℕ) (t : Transfer) (a : Area) (hw : 1 ≤ t.width) (in_memory : every_byte t (within n t a) ≡ true) (r : ℕ) (hr : r < t.height) where
  at : (c : ℕ) → c < t.width → (leb (behind t a r c) (a.address + ahead t a r c) ≡ true) × (ltb (place t a r c) n ≡ true)
  at c hc = and_parts _ _ (bytes-at t (within n t a) r c hr hc in_memory)

  low : (c : ℕ) → c < t.width → behind t a r c ≤ a.address + ahead t a r c
  low c hc = leb-true _ _ (at c hc).0

  high : (c : ℕ) → c < t.width → place t a r c < n
  high c hc = ltb-true _ _ (at c hc).1

  pub line_back : cond t.upward (r * a.span) 0 ≤ a.address
  line_back = first_back t.leftward t.upward a.address (r * a.span) (low 0 hw)

  pub low_back : cond t.leftward (t.width - 1) 0 ≤ moved t.upward a.address (r * a.span)
  low_back = last_back t.leftward t.upward a.address (r * a.span) (t.width - 1) line_back (low (t.width - 1) (omega arith))

  pub place_at_lem : (c : ℕ) → c < t.width → place t a r c ≡ byte_at t.leftward (line_low t a r) t.width c
  place_at_lem c hc = from_low t.leftward t.upward a.address (r * a.span) t.width c hc line_back low_back

  pub line-fits : line_low t a r + t.width ≤ n
  line-fits =
      let c = cond t.leftward 0 (t.width - 1) in
      let hc : c < t.width = omega (arith, cond_most t.leftward 0 (t.width - 1) (t.width - 1) zero-le (le_refl (t.width - 1))) in
      low_fits t.leftward (line_low t a r) t.width n hw (rw (place_at_lem c hc) at (high c hc))

-- ---- the pattern's bytes

pub pattern_all : (n : ℕ) (t : Transfer) → t.pattern_address + 64 ≤ n → every_byte t (λ r c. ltb (pattern_place t r c) n) ≡ true
pattern_all n t h =
    bytes_all t (λ r c. ltb (pattern_place t r c) n) (λ r c hr hc.
    let l : pattern_place t r c < n = omega arith in
    lt-ltb _ _ l)

column : (l : Bool) (w k : ℕ) → k < w → cond l (w - 1 - cond l (w - 1 - k) k) (cond l (w - 1 - k) k) ≡ k
column true w k h = omega arith
column false w k h = refl

column_below : (l : Bool) (w k : ℕ) → k < w → cond l (w - 1 - k) k < w
column_below true w k h = omega arith
column_below false w k h = h

module _ (n : ℕ) (t : Transfer) (hw : 1 ≤ t.width) (in_memory : every_byte t (within n t t.destination) ≡ true) (r : ℕ) (hr : r < t.height) where
  abbrev D : ℕ
  D = line_low t t.destination r

  pattern_at : (c : ℕ) → c < t.width → pattern_place t r c ≡ pattern_line t r + byte_at t.leftward D t.width c % 8
  pattern_at c hc = ap (λ (x : ℕ). pattern_line t r + x % 8) (place_at_lem n t t.destination hw in_memory r hr c hc)

  pub pattern_line_in : ((k : ℕ) → k < t.width → pattern_line t r + (D + k) % 8 < n) → every (λ c. ltb (pattern_place t r c) n) 0 t.width ≡ true
  pattern_line_in h =
      every_all _ 0 t.width (λ c c₀ hc₀.
      let hc : c < t.width = omega arith in
      let l : pattern_place t r c < n = rw (pattern_at c hc) (h (cond t.leftward (t.width - 1 - c) c) (column_below t.leftward t.width c hc)) in
      lt-ltb _ _ l)

  pub pattern_line-out : Missing n D (pattern_line t r) t.width → every (λ c. ltb (pattern_place t r c) n) 0 t.width ≡ false
  pattern_line-out g =
      let c = cond t.leftward (t.width - 1 - g.at) g.at in
      let hc : c < t.width = column_below t.leftward t.width g.at g.used in
      let l : n ≤ pattern_place t r c = rw (pattern_at c hc, column t.leftward t.width g.at g.used) g.outside in
      every_false _ 0 t.width c zero-le (omega arith) (le-ltb _ _ l)

-- ---- a transfer whose numbers are in range, and that is in memory

all_seven : (a b c d e f g : Bool) → a && b && c && d && e && f && g ≡ true
    → (a ≡ true) × (b ≡ true) × (c ≡ true) × (d ≡ true) × (e ≡ true) × (f ≡ true)
all_seven a b c d e f g h =
    let h6 = (and_parts _ g h).0 in
    let h5 = and_parts _ f h6 in
    let h4 = and_parts _ e h5.0 in
    let h3 = and_parts _ d h4.0 in
    let h2 = and_parts _ c h3.0 in
    let h1 = and_parts a b h2.0 in
    (h1.0, h1.1, h2.1, h3.1, h4.1, h5.1)

pub ranges : (t : Transfer) → in_range t ≡ true → Ranges t
unfolding in_range
ranges t e =
    let h = all_seven (leb 1 t.width) (leb t.width 8191) (leb 1 t.height) (leb t.height 8191) (leb t.destination.span 8191)
    (not (uses_source t.code) || leb t.source.span 8191) (not (uses_pattern t.code) || (leb t.pattern_row 7 && eqb (t.pattern_address % 64) 0)) e in
    record {
      wide = leb-true _ _ h.0;
      narrow = leb-true _ _ h.1;
      high = leb-true _ _ h.2;
      low = leb-true _ _ h.3;
      close = leb-true _ _ h.4;
      source_close = λ u. leb-true _ _ (if_so (uses_source t.code) _ h.5 u);
    }

module _ (n : ℕ) (t : Transfer) (h : is_in_memory n t ≡ true) where
  first_two : (every_byte t (within n t t.destination) ≡ true) × (not (uses_source t.code) || every_byte t (within n t t.source) ≡ true)
  unfolding is_in_memory
  first_two = and_parts _ _ (and_parts _ _ h).0

  pub destination_in : every_byte t (within n t t.destination) ≡ true
  destination_in = first_two.0

  pub source_in : uses_source t.code ≡ true → every_byte t (within n t t.source) ≡ true
  source_in = if_so (uses_source t.code) _ first_two.1

  pub pattern_in : uses_pattern t.code ≡ true → every_byte t (λ r c. ltb (pattern_place t r c) n) ≡ true
  unfolding is_in_memory
  pattern_in = if_so (uses_pattern t.code) _ (and_parts (every_byte t (within n t t.destination) && (not (uses_source t.code) || every_byte t (within n t t.source))) _ h).1

-- an address moved is at most both together
pub moved_most : (b : Bool) (a x : ℕ) → moved b a x ≤ a + x
moved_most true a x = omega arith
moved_most false a x = omega arith

pub cond_twice : (b : Bool) (x : ℕ) → cond b (cond b x 0) 0 ≡ cond b x 0
cond_twice true x = refl
cond_twice false x = refl

-- ---- numbers far below 2^32

-- an area that lies in memory begins there, and one that begins outside does not
module _ (n : ℕ) (t : Transfer) (a : Area) (hw : 1 ≤ t.width) (hh : 1 ≤ t.height) where
  first-place : place t a 0 0 ≡ a.address
  first-place = rw (zero-mul a.span) (start t.leftward t.upward)
    where
      start : (l u : Bool) → a.address + (cond l 0 0 + cond u 0 0) - (cond l 0 0 + cond u 0 0) ≡ a.address
      start true true = omega arith
      start true false = omega arith
      start false true = omega arith
      start false false = omega arith

  pub begins_in : every_byte t (within n t a) ≡ true → a.address < n
  begins_in e = rw first-place at (ltb-true (place t a 0 0) n (and_parts (leb (behind t a 0 0) (a.address + ahead t a 0 0)) _ (bytes-at t (within n t a) 0 0 hh hw e)).1)

  pub begins-out : n ≤ a.address → every_byte t (within n t a) ≡ false
  begins-out h =
      bytes_false t (within n t a) 0 0 hh hw
      (ap (λ (x : Bool). leb (behind t a 0 0) (a.address + ahead t a 0 0) && x) (le-ltb (place t a 0 0) n (rw first-place h))
      ∙ and-false (leb (behind t a 0 0) (a.address + ahead t a 0 0)))

-- the same of the pattern
module _ (n : ℕ) (t : Transfer) (hw : 1 ≤ t.width) (hh : 1 ≤ t.height) where
  pub pattern_begins_in : every_byte t (λ r c. ltb (pattern_place t r c) n) ≡ true → t.pattern_address < n
  pattern_begins_in e =
      let h : pattern_place t 0 0 < n = ltb-true _ _ (bytes-at t (λ r c. ltb (pattern_place t r c) n) 0 0 hh hw e) in
      omega arith

  pub pattern_begins_out : n ≤ t.pattern_address → every_byte t (λ r c. ltb (pattern_place t r c) n) ≡ false
  pattern_begins_out h =
      let l : n ≤ pattern_place t 0 0 = omega arith in
      bytes_false t (λ r c. ltb (pattern_place t r c) n) 0 0 hh hw (le-ltb _ _ l)

below_fold : (x : ℕ) → x ≤ 2097152 → x % 2 ^ 32 ≡ x
below_fold x h = omega arith

-- what the code works out is the line's lowest address, and the pattern's bytes
pub line_low-is : (n : ℕ) (t : Transfer) (a : Area) → Ranges t → n ≤ 2097152 → a.span ≤ 8191 → every_byte t (within n t a) ≡ true → (r : ℕ) → r < t.height
    → low_of t.leftward t.upward (a.address % 2 ^ 32) (a.span % 2 ^ 32) (t.width % 2 ^ 32) (r % 2 ^ 32) ≡ line_low t a r
line_low-is n t a rs most close e r hr =
    let b = begins_in n t a rs.wide rs.high e in
    let w = rs.narrow in
    let h = rs.low in
    rw (below_fold a.address (omega arith), below_fold a.span (omega arith), below_fold t.width (omega arith), below_fold r (omega arith))

pub pattern_line-is : (t : Transfer) → t.pattern_address ≤ 2097152 → (r : ℕ) → pattern_low t.upward (t.pattern_address % 2 ^ 32) t.pattern_row r ≡ pattern_line t r
pattern_line-is t h r = rw (below_fold t.pattern_address h)
