-- A store of one byte, as a change of what bytes keep, and so of the chip that they hold: a single byte, a place of the row, or
-- the three bytes of an entry. The regions follow one another, so each store leaves the other two as they were. Then where a
-- register's byte is and what is read there, by name; the argument over the groups is crate `chip`'s (ViewLaws).
use Rattle.std.proofs.Common.{◌≡◌, ℕ, ◌+◌, ◌-◌, ◌*◌, ◌/◌, ◌%◌, ◌<◌, Bool, true, false, cond, eqb, List, length, get_or, set, sym, refl, ap, ◌∙◌, true≢false, arith, length-set, get_or-set_other, get_or-set_same, eqb-true}
use borrow.Author.Tests.{eqb-false}
use Rattle.lists.specs.Tab.{tab}
use Rattle.lists.proofs.Tab.{tab-length, tab-at, tab-same, tab-set}
use Rattle.chip_registers.specs.Groups.{is_indexed}
use Rattle.chip_registers.specs.Row.{Slot, At, Nowhere, before, slot_of, row_size}
use Rattle.chip_registers.specs.declared.Group.{Group}
use Rattle.chip_registers.specs.declared.Group.TheVariants.{Cr, Sr, Gr, Xr, Fr, Mr, Msr, Palmask, Ar}
use Rattle.chip_registers.proofs.RowLaws.{stands}
use Rattle.chip_masks.specs.Table.{standing, standing_of}
use Rattle.chip.specs.State.{Chip, named, join, with_named}
use Rattle.chip.specs.Names.{register}
use Rattle.chip.specs.Palette.{rgb, entry, with_palette}
use Rattle.chip.specs.View.{in_row, view as shown_by}
use Rattle.chip.specs.declared.Chip.{Chip as Kept}
use Rattle.chip.proofs.ViewLaws.{with_row, shown-at}
use Rattle.lent_chip.specs.Layout.{MSR, PALMASK, CR_INDEX, SR_INDEX, GR_INDEX, XR_INDEX, FR_INDEX, MR_INDEX, AR_INDEX, INDEX, POSITION, RED, GREEN, FLAGS, PALETTE, ROW, whole, colour_in, laid, view, base_of, place_of}

-- the regions follow one another and fill a state
pub regions_fill : (FLAGS + 1 ≡ PALETTE) × (PALETTE + 3 * 256 ≡ ROW) × (ROW + row_size ≡ whole)
regions_fill = (refl, refl, refl)

-- a byte after a store
after : (l : List ℕ) (k v j : ℕ) → k < length l → get_or (set l k v) j 0 ≡ cond (eqb j k) v (get_or l j 0)
after l k v j w = go (eqb j k) refl
  where
    go : (z : Bool) → eqb j k ≡ z → get_or (set l k v) j 0 ≡ cond z v (get_or l j 0)
    go true e = rw (eqb-true j k e) (get_or-set_same l k v 0 w)
    go false e = get_or-set_other l k j v 0 (eqb-false j k e)

-- the row and the palette, where the store is elsewhere
row_stays : (l : List ℕ) (k v : ℕ) → k < ROW → tab (λ j. get_or (set l k v) (ROW + j) 0) row_size ≡ tab (λ j. get_or l (ROW + j) 0) row_size
row_stays l k v h = tab-same (λ j. get_or (set l k v) (ROW + j) 0) (λ j. get_or l (ROW + j) 0) row_size (λ j w. get_or-set_other l k (ROW + j) v 0 (λ e. omega arith))

palette-stays : (l : List ℕ) (k v : ℕ) → ((j : ℕ) → j < 768 → PALETTE + j ≡ k → ⊥) → tab (colour_in (set l k v)) 256 ≡ tab (colour_in l) 256
palette-stays l k v n =
    tab-same (colour_in (set l k v)) (colour_in l) 256
    (λ e w. rw (
      get_or-set_other l k (PALETTE + 3 * e) v 0 (n (3 * e) (omega arith)),
      get_or-set_other l k (PALETTE + (3 * e + 1)) v 0 (n (3 * e + 1) (omega arith)),
      get_or-set_other l k (PALETTE + (3 * e + 2)) v 0 (n (3 * e + 2) (omega arith)),
    ))

-- ---- a single byte: MSR, PALMASK, the indexes, the palette's index, position and held bytes, and the flags

-- what is kept, and the chip, with that byte replaced
abbrev singly : Kept → ℕ → ℕ → Kept
singly f k v = record {
  row = f.row;
  msr = cond (eqb MSR k) v f.msr;
  palmask = cond (eqb PALMASK k) v f.palmask;
  picture = cond (eqb FLAGS k) (eqb (v / 4 % 2) 1) f.picture;
  palette = f.palette;
  indexes = record {
    cr = cond (eqb CR_INDEX k) v f.indexes.cr;
    sr = cond (eqb SR_INDEX k) v f.indexes.sr;
    gr = cond (eqb GR_INDEX k) v f.indexes.gr;
    xr = cond (eqb XR_INDEX k) v f.indexes.xr;
    fr = cond (eqb FR_INDEX k) v f.indexes.fr;
    mr = cond (eqb MR_INDEX k) v f.indexes.mr;
    ar = cond (eqb AR_INDEX k) v f.indexes.ar;
    turn = cond (eqb FLAGS k) (eqb (v / 2 % 2) 1) f.indexes.turn;
  };
  loading = record {
    index = cond (eqb INDEX k) v f.loading.index;
    position = cond (eqb POSITION k) v f.loading.position;
    red = cond (eqb RED k) v f.loading.red;
    green = cond (eqb GREEN k) v f.loading.green;
    reading = cond (eqb FLAGS k) (eqb (v % 2) 1) f.loading.reading;
  };
}

abbrev pub single : Chip → ℕ → ℕ → Chip
single c k v =
    join
    (record {
      cr = c.cr;
      sr = c.sr;
      gr = c.gr;
      xr = c.xr;
      fr = c.fr;
      mr = c.mr;
      ar = c.ar;
      msr = cond (eqb MSR k) v c.msr;
      palmask = cond (eqb PALMASK k) v c.palmask;
      picture = cond (eqb FLAGS k) (eqb (v / 4 % 2) 1) c.picture;
      palette = c.palette;
    })
    (record {
      cr = cond (eqb CR_INDEX k) v c.indexes.cr;
      sr = cond (eqb SR_INDEX k) v c.indexes.sr;
      gr = cond (eqb GR_INDEX k) v c.indexes.gr;
      xr = cond (eqb XR_INDEX k) v c.indexes.xr;
      fr = cond (eqb FR_INDEX k) v c.indexes.fr;
      mr = cond (eqb MR_INDEX k) v c.indexes.mr;
      ar = cond (eqb AR_INDEX k) v c.indexes.ar;
      turn = cond (eqb FLAGS k) (eqb (v / 2 % 2) 1) c.indexes.turn;
    })
    (record {
      index = cond (eqb INDEX k) v c.loading.index;
      position = cond (eqb POSITION k) v c.loading.position;
      red = cond (eqb RED k) v c.loading.red;
      green = cond (eqb GREEN k) v c.loading.green;
      reading = cond (eqb FLAGS k) (eqb (v % 2) 1) c.loading.reading;
    })

cond_of : (f : ℕ → Bool) (b : Bool) (x y : ℕ) → f (cond b x y) ≡ cond b (f x) (f y)
cond_of f true x y = refl
cond_of f false x y = refl

laid-single : (l : List ℕ) (k v : ℕ) → length l ≡ whole → k < PALETTE → laid (set l k v) ≡ singly (laid l) k v
unfolding laid
laid-single l k v n h =
    let w : k < length l = rw n (omega arith) in
    let flag : (f : ℕ → Bool) → f (get_or (set l k v) FLAGS 0) ≡ cond (eqb FLAGS k) (f v) (f (get_or l FLAGS 0)) =
    λ f. ap f (after l k v FLAGS w) ∙ cond_of f (eqb FLAGS k) v (get_or l FLAGS 0) in
    λ t. record {
      row = row_stays l k v (omega arith) t;
      msr = after l k v MSR w t;
      palmask = after l k v PALMASK w t;
      picture = flag (λ x. eqb (x / 4 % 2) 1) t;
      palette = palette-stays l k v (λ j x e. omega arith) t;
      indexes = record {
        cr = after l k v CR_INDEX w t;
        sr = after l k v SR_INDEX w t;
        gr = after l k v GR_INDEX w t;
        xr = after l k v XR_INDEX w t;
        fr = after l k v FR_INDEX w t;
        mr = after l k v MR_INDEX w t;
        ar = after l k v AR_INDEX w t;
        turn = flag (λ x. eqb (x / 2 % 2) 1) t;
      };
      loading = record {
        index = after l k v INDEX w t;
        position = after l k v POSITION w t;
        red = after l k v RED w t;
        green = after l k v GREEN w t;
        reading = flag (λ x. eqb (x % 2) 1) t;
      };
    }

pub set_single : (l : List ℕ) (k v : ℕ) → length l ≡ whole → k < PALETTE → view (set l k v) ≡ single (view l) k v
unfolding view shown_by
set_single l k v n h = ap shown_by (laid-single l k v n h)

-- ---- a place of the row
pub set-row : (l : List ℕ) (k v : ℕ) → length l ≡ whole → k < row_size → view (set l (ROW + k) v) ≡ shown_by (with_row (laid l) (set (laid l).row k v))
unfolding view laid
set-row l k v n h =
    let w : ROW + k < length l = rw n (omega arith) in
    let other : (j : ℕ) → j < PALETTE → get_or (set l (ROW + k) v) j 0 ≡ get_or l j 0 = λ j x. get_or-set_other l (ROW + k) j v 0 (λ e. omega arith) in
    let row : tab (λ j. get_or (set l (ROW + k) v) (ROW + j) 0) row_size ≡ set (tab (λ j. get_or l (ROW + j) 0) row_size) k v =
    tab-set (λ j. get_or l (ROW + j) 0) (λ j. get_or (set l (ROW + k) v) (ROW + j) 0) row_size k h
    (λ j x d. get_or-set_other l (ROW + k) (ROW + j) v 0 (λ e. d (omega arith)))
    ∙ ap (set (tab (λ j. get_or l (ROW + j) 0) row_size) k) (get_or-set_same l (ROW + k) v 0 w) in
    ap shown_by
    (λ t. record {
      row = row t;
      msr = other MSR (omega arith) t;
      palmask = other PALMASK (omega arith) t;
      picture = eqb (other FLAGS (omega arith) t / 4 % 2) 1;
      palette = palette-stays l (ROW + k) v (λ j x e. omega arith) t;
      indexes = record {
        cr = other CR_INDEX (omega arith) t;
        sr = other SR_INDEX (omega arith) t;
        gr = other GR_INDEX (omega arith) t;
        xr = other XR_INDEX (omega arith) t;
        fr = other FR_INDEX (omega arith) t;
        mr = other MR_INDEX (omega arith) t;
        ar = other AR_INDEX (omega arith) t;
        turn = eqb (other FLAGS (omega arith) t / 2 % 2) 1;
      };
      loading = record {
        index = other INDEX (omega arith) t;
        position = other POSITION (omega arith) t;
        red = other RED (omega arith) t;
        green = other GREEN (omega arith) t;
        reading = eqb (other FLAGS (omega arith) t % 2) 1;
      };
    })

-- the row of a state, and a byte of it
pub row-length : (l : List ℕ) → length (laid l).row ≡ row_size
unfolding laid
row-length l = tab-length (λ k. get_or l (ROW + k) 0) row_size

pub row_at : (l : List ℕ) (k : ℕ) → k < row_size → get_or (laid l).row k 0 ≡ get_or l (ROW + k) 0
unfolding laid
row_at l k h = tab-at (λ k. get_or l (ROW + k) 0) row_size k 0 h

-- ---- the three bytes of an entry
module _ (l : List ℕ) (e r g b : ℕ) (n : length l ≡ whole) (h : e < 256) where
  abbrev three : List ℕ
  three = set (set (set l (PALETTE + 3 * e) r) (PALETTE + (3 * e + 1)) g) (PALETTE + (3 * e + 2)) b

  away : (j : ℕ) → (j ≡ PALETTE + 3 * e → ⊥) → (j ≡ PALETTE + (3 * e + 1) → ⊥) → (j ≡ PALETTE + (3 * e + 2) → ⊥) → get_or three j 0 ≡ get_or l j 0
  away j x y z =
      get_or-set_other (set (set l (PALETTE + 3 * e) r) (PALETTE + (3 * e + 1)) g) (PALETTE + (3 * e + 2)) j b 0 z
      ∙ (get_or-set_other (set l (PALETTE + 3 * e) r) (PALETTE + (3 * e + 1)) j g 0 y ∙ get_or-set_other l (PALETTE + 3 * e) j r 0 x)

  at-red : get_or three (PALETTE + 3 * e) 0 ≡ r
  at-red =
      get_or-set_other (set (set l (PALETTE + 3 * e) r) (PALETTE + (3 * e + 1)) g) (PALETTE + (3 * e + 2)) (PALETTE + 3 * e) b 0 (λ x. omega arith)
      ∙ (get_or-set_other (set l (PALETTE + 3 * e) r) (PALETTE + (3 * e + 1)) (PALETTE + 3 * e) g 0 (λ x. omega arith)
      ∙ get_or-set_same l (PALETTE + 3 * e) r 0 (rw n (omega arith)))

  at-green : get_or three (PALETTE + (3 * e + 1)) 0 ≡ g
  at-green =
      get_or-set_other (set (set l (PALETTE + 3 * e) r) (PALETTE + (3 * e + 1)) g) (PALETTE + (3 * e + 2)) (PALETTE + (3 * e + 1)) b 0 (λ x. omega arith)
      ∙ get_or-set_same (set l (PALETTE + 3 * e) r) (PALETTE + (3 * e + 1)) g 0 (simp length-set (rw n (omega arith)))

  at_blue : get_or three (PALETTE + (3 * e + 2)) 0 ≡ b
  at_blue = get_or-set_same (set (set l (PALETTE + 3 * e) r) (PALETTE + (3 * e + 1)) g) (PALETTE + (3 * e + 2)) b 0 (simp length-set (rw n (omega arith)))

  entries : tab (colour_in three) 256 ≡ set (tab (colour_in l) 256) e (rgb r g b)
  entries =
      tab-set (colour_in l) (colour_in three) 256 e h
      (λ k w d. rw (
        away (PALETTE + 3 * k) (λ x. d (omega arith)) (λ x. omega arith) (λ x. omega arith),
        away (PALETTE + (3 * k + 1)) (λ x. omega arith) (λ x. d (omega arith)) (λ x. omega arith),
        away (PALETTE + (3 * k + 2)) (λ x. omega arith) (λ x. omega arith) (λ x. d (omega arith)),
      ))
      ∙ rw (at-red, at-green, at_blue)

  early : (j : ℕ) → j < PALETTE → get_or three j 0 ≡ get_or l j 0
  early j w = away j (λ x. omega arith) (λ x. omega arith) (λ x. omega arith)

  -- written as the code counts
  pub set_colour : view (set (set (set l (PALETTE + 3 * e) r) (PALETTE + 3 * e + 1) g) (PALETTE + 3 * e + 2) b)
      ≡ with_named (view l) (with_palette (named (view l)) (set (view l).palette e (rgb r g b)))
  unfolding view shown_by laid
  set_colour =
      let x : PALETTE + 3 * e + 1 ≡ PALETTE + (3 * e + 1) = omega arith in
      let y : PALETTE + 3 * e + 2 ≡ PALETTE + (3 * e + 2) = omega arith in
      let row : tab (λ j. get_or three (ROW + j) 0) row_size ≡ tab (λ j. get_or l (ROW + j) 0) row_size =
      tab-same (λ j. get_or three (ROW + j) 0) (λ j. get_or l (ROW + j) 0) row_size (λ j w. away (ROW + j) (λ x. omega arith) (λ x. omega arith) (λ x. omega arith)) in
      rw (x, y)
      (ap shown_by
      (λ t. record {
        row = row t;
        msr = early MSR (omega arith) t;
        palmask = early PALMASK (omega arith) t;
        picture = eqb (early FLAGS (omega arith) t / 4 % 2) 1;
        palette = entries t;
        indexes = record {
          cr = early CR_INDEX (omega arith) t;
          sr = early SR_INDEX (omega arith) t;
          gr = early GR_INDEX (omega arith) t;
          xr = early XR_INDEX (omega arith) t;
          fr = early FR_INDEX (omega arith) t;
          mr = early MR_INDEX (omega arith) t;
          ar = early AR_INDEX (omega arith) t;
          turn = eqb (early FLAGS (omega arith) t / 2 % 2) 1;
        };
        loading = record {
          index = early INDEX (omega arith) t;
          position = early POSITION (omega arith) t;
          red = early RED (omega arith) t;
          green = early GREEN (omega arith) t;
          reading = eqb (early FLAGS (omega arith) t % 2) 1;
        };
      }))

pub palette-length : (l : List ℕ) → length (view l).palette ≡ 256
unfolding view shown_by laid
palette-length l = tab-length (colour_in l) 256

pub get_colour : (l : List ℕ) (e : ℕ) → e < 256 → entry (named (view l)) e ≡ colour_in l e
unfolding view shown_by laid
get_colour l e h = tab-at (colour_in l) 256 e (rgb 0 0 0) h

-- ---- a register of any group: its byte, or none

-- where a register is: in the row, alone, or nowhere; and what the table of places says of it
pub data Where (g : Group) (i : ℕ) : Type 0 where
  InRow : (k : ℕ) → slot_of g i ≡ At k → k < row_size → place_of g i ≡ ROW + k → standing_of g i / 128 % 2 ≡ 1 → Where g i
  IsMsr : g ≡ Msr → Where g i
  IsPalmask : g ≡ Palmask → Where g i
  Unlisted : is_indexed g ≡ true → slot_of g i ≡ Nowhere → standing_of g i ≡ 0 → Where g i

low_high : (d : ℕ) → d < 128 → ((128 + d) % 128 ≡ d) × ((128 + d) / 128 % 2 ≡ 1)
low_high d h = let half : (128 + d) / 128 ≡ 1 = omega arith in (omega arith, rw half (omega arith))

base_row : (g : Group) → is_indexed g ≡ true → base_of g ≡ ROW + before g
unfolding base_of
base_row Cr x = refl
base_row Sr x = refl
base_row Gr x = refl
base_row Xr x = refl
base_row Fr x = refl
base_row Mr x = refl
base_row Msr x = absurd (true≢false (sym x))
base_row Palmask x = absurd (true≢false (sym x))
base_row Ar x = refl

stood : (g : Group) (i : ℕ) → is_indexed g ≡ true → (s : Slot) → slot_of g i ≡ s → standing_of g i ≡ standing (before g) s
unfolding standing_of
stood g i x s e = rw (x, e)

-- a register of the row is at its place there, and stands
pub placed : (g : Group) (i k : ℕ) → i < 256 → slot_of g i ≡ At k → (place_of g i ≡ ROW + k) × (standing_of g i / 128 % 2 ≡ 1)
unfolding place_of
placed g i k h e =
    let s = stands g i k h e in
    let (low, high) = low_high (k - before g) (omega (arith, s.from, s.near)) in
    let z : standing_of g i ≡ 128 + (k - before g) = stood g i s.listed (At k) e in
    (rw (base_row g s.listed, z, low) (omega (arith, s.from)), rw z high)

in_row_lem : (g : Group) (i : ℕ) → i < 256 → is_indexed g ≡ true → Where g i
in_row_lem g i h x = go (slot_of g i) refl
  where
    go : (s : Slot) → slot_of g i ≡ s → Where g i
    go (At k) e = let (p, q) = placed g i k h e in InRow k e (stands g i k h e).within p q
    go Nowhere e = Unlisted x e (stood g i x Nowhere e)

pub where_is : (g : Group) (i : ℕ) → i < 256 → Where g i
where_is Cr i h = in_row_lem Cr i h refl
where_is Sr i h = in_row_lem Sr i h refl
where_is Gr i h = in_row_lem Gr i h refl
where_is Xr i h = in_row_lem Xr i h refl
where_is Fr i h = in_row_lem Fr i h refl
where_is Mr i h = in_row_lem Mr i h refl
where_is Msr i h = IsMsr refl
where_is Palmask i h = IsPalmask refl
where_is Ar i h = in_row_lem Ar i h refl

-- the place lies among the bytes
pub place_below : (g : Group) (i : ℕ) → i < 256 → base_of g < whole → place_of g i < whole
unfolding place_of base_of standing_of
place_below g i h b = go (where_is g i h)
  where
    go : Where g i → place_of g i < whole
    go (InRow k e w p q) = rw p (omega arith)
    go (IsMsr e) = rw e (omega arith)
    go (IsPalmask e) = rw e (omega arith)
    go (Unlisted x e z) = rw z (omega (arith, b))

-- a register of the row as the chip shows it
pub row-shown : (g : Group) (l : List ℕ) (i : ℕ) → i < 256 → is_indexed g ≡ true → register g (named (view l)) i ≡ in_row (laid l).row (slot_of g i)
unfolding view
row-shown g l i h x = shown-at g (laid l) i h x

-- what the code shows of a register is its byte
module _ (g : Group) (l : List ℕ) (i : ℕ) (h : i < 256) where
  stored : (k : ℕ) → slot_of g i ≡ At k → k < row_size → place_of g i ≡ ROW + k → standing_of g i / 128 % 2 ≡ 1
      → register g (named (view l)) i ≡ cond (eqb (standing_of g i / 128 % 2) 1) (get_or l (place_of g i) 0) 0
  stored k e w p q = row-shown g l i h (stands g i k h e).listed ∙ (ap (in_row (laid l).row) e ∙ (row_at l k w ∙ rw (q, p)))

  unstored : is_indexed g ≡ true → slot_of g i ≡ Nowhere → standing_of g i ≡ 0
      → register g (named (view l)) i ≡ cond (eqb (standing_of g i / 128 % 2) 1) (get_or l (place_of g i) 0) 0
  unstored x e z = row-shown g l i h x ∙ (ap (in_row (laid l).row) e ∙ rw z)

  pub get_reg : register g (named (view l)) i ≡ cond (eqb (standing_of g i / 128 % 2) 1) (get_or l (place_of g i) 0) 0
  unfolding view shown_by laid place_of base_of standing_of
  get_reg = go (where_is g i h)
    where
      go : Where g i → register g (named (view l)) i ≡ cond (eqb (standing_of g i / 128 % 2) 1) (get_or l (place_of g i) 0) 0
      go (InRow k e w p q) = stored k e w p q
      go (IsMsr e) = rw e
      go (IsPalmask e) = rw e
      go (Unlisted x e z) = unstored x e z
