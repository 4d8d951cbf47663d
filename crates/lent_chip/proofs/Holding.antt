-- Bytes that hold a chip, and hold another after a store: each store as one step from `Holds` to `Holds`, so that a function of
-- several stores is a chain of them. The spare bits stay, since only the byte of flags has them.
use Rattle.std.proofs.Common.{◌≡◌, ℕ, ◌+◌, ◌*◌, ◌/◌, ◌%◌, ◌<◌, Bool, true, false, cond, eqb, List, length, get_or, set, sym, refl, ap, ◌∙◌, arith, length-set, get_or-set_other, get_or-set_same}
use lib.Bits.{bit_and, and_comm, and_le_l, and_mask, and_mod}
use Rattle.lists.specs.Bits.{is_set}
use Rattle.chip_registers.specs.Groups.{is_indexed}
use Rattle.chip_registers.specs.Indexes.{index_kept}
use Rattle.chip_registers.specs.Row.{At, Nowhere, slot_of, row_size}
use Rattle.chip_registers.specs.WriteRule.{left_open, under_lock, writable_now, written}
use Rattle.chip_registers.specs.declared.Group.{Group}
use Rattle.chip_registers.specs.declared.Group.TheVariants.{Msr, Palmask, Ar}
use Rattle.chip_registers.proofs.WriteLaws.{written_none}
use Rattle.chip_masks.specs.Table.{standing_of}
use Rattle.chip_registers.proofs.RowLaws.{nowhere_unlisted}
use Rattle.chip.specs.State.{Chip, named, join, with_named, with_indexes, with_loading, with_picture, with_turn}
use Rattle.chip.specs.Names.{locked, received}
use Rattle.chip.specs.Attribute.{attribute_aimed}
use Rattle.chip.specs.Palette.{rgb, entry, with_palette, component}
use Rattle.chip.specs.View.{view as shown_by}
use Rattle.chip.proofs.ViewLaws.{with_row, received-at, received_nowhere, none_writable, set_itself}
use Rattle.lent_chip.specs.Layout.{MSR, PALMASK, AR_INDEX, INDEX, POSITION, FLAGS, PALETTE, ROW, whole, laid, view, spare, base_of, place_of, third_of, Holds}
use Rattle.lent_chip.proofs.Flags.{below_two, tested, reading-put, turn_put, picture_put}
use Rattle.lent_chip.proofs.Stores.{single, set_single, set-row, row-length, row_at, set_colour, get_colour, Where, InRow, IsMsr, IsPalmask, Unlisted, where_is}

-- a state holds its own view
pub as_it_is : {l : List ℕ} → length l ≡ whole → Holds l (view l) (spare l)
as_it_is n = record { size = n; chip = refl; spare = refl }

pub now_holds : {l : List ℕ} {c d : Chip} {b : ℕ} → Holds l c b → c ≡ d → Holds l d b
now_holds h e = record { size = h.size; chip = h.chip ∙ e; spare = h.spare }

-- a store elsewhere than at the flags leaves the spare bits
spare-stays : (l : List ℕ) (k v : ℕ) → (FLAGS ≡ k → ⊥) → spare (set l k v) ≡ spare l
unfolding spare
spare-stays l k v n = rw (get_or-set_other l k FLAGS v 0 n)

pub then_single : {l : List ℕ} {c : Chip} {b : ℕ} (k v : ℕ) → Holds l c b → k < FLAGS → Holds (set l k v) (single c k v) b
then_single {l} k v h w = record {
  size = length-set l k v ∙ h.size;
  chip = set_single l k v h.size (omega arith) ∙ ap (λ (d : Chip). single d k v) h.chip;
  spare = spare-stays l k v (λ e. omega arith) ∙ h.spare;
}

-- the byte of flags is stored, its spare bits as they were
abbrev marked : Chip → Bool → Bool → Bool → Chip
marked c reading turn picture =
    join (with_picture (named c) picture) (with_turn c.indexes turn)
    (record { index = c.loading.index; position = c.loading.position; red = c.loading.red; green = c.loading.green; reading = reading })

then_flags : {l : List ℕ} {c : Chip} {b : ℕ} (v : ℕ) {reading turn picture : Bool} → Holds l c b → v / 8 ≡ get_or l FLAGS 0 / 8
    → eqb (v % 2) 1 ≡ reading → eqb (v / 2 % 2) 1 ≡ turn → eqb (v / 4 % 2) 1 ≡ picture → Holds (set l FLAGS v) (marked c reading turn picture) b
unfolding spare
then_flags {l} v h e r t p = record {
  size = length-set l FLAGS v ∙ h.size;
  chip = set_single l FLAGS v h.size (omega arith) ∙ ap (λ (d : Chip). single d FLAGS v) h.chip ∙ rw (r, t, p);
  spare = ap (λ (x : ℕ). x / 8) (get_or-set_same l FLAGS v 0 (rw h.size (omega arith))) ∙ e ∙ h.spare;
}

-- the three flags of bytes that hold a chip
reading-held : {l : List ℕ} {c : Chip} {b : ℕ} → Holds l c b → eqb (get_or l FLAGS 0 % 2) 1 ≡ c.loading.reading
unfolding view shown_by laid
reading-held h = ap (λ (d : Chip). d.loading.reading) h.chip

turn_held : {l : List ℕ} {c : Chip} {b : ℕ} → Holds l c b → eqb (get_or l FLAGS 0 / 2 % 2) 1 ≡ c.indexes.turn
unfolding view shown_by laid
turn_held h = ap (λ (d : Chip). d.indexes.turn) h.chip

picture_held : {l : List ℕ} {c : Chip} {b : ℕ} → Holds l c b → eqb (get_or l FLAGS 0 / 4 % 2) 1 ≡ c.picture
unfolding view shown_by laid
picture_held h = ap (λ (d : Chip). d.picture) h.chip

-- one flag is replaced
pub then_reading : {l : List ℕ} {c : Chip} {b v : ℕ} (bit : Bool) → Holds l c b → v ≡ get_or l FLAGS 0 / 2 * 2 + cond bit 1 0
    → Holds (set l FLAGS v) (with_loading c (record { index = c.loading.index; position = c.loading.position; red = c.loading.red; green = c.loading.green; reading = bit })) b
then_reading {l} {v = v} bit h e =
    let f = reading-put (get_or l FLAGS 0) v (cond bit 1 0) (below_two bit) e in
    then_flags v h f.spare (tested bit f.reading) (rw f.turn (turn_held h)) (rw f.picture (picture_held h))

pub then_turn : {l : List ℕ} {c : Chip} {b v : ℕ} (bit : Bool) → Holds l c b → v ≡ get_or l FLAGS 0 / 4 * 4 + get_or l FLAGS 0 % 2 + 2 * cond bit 1 0
    → Holds (set l FLAGS v) (with_indexes c (with_turn c.indexes bit)) b
then_turn {l} {v = v} bit h e =
    let f = turn_put (get_or l FLAGS 0) v (cond bit 1 0) (below_two bit) e in
    then_flags v h f.spare (rw f.reading (reading-held h)) (tested bit f.turn) (rw f.picture (picture_held h))

pub then_picture : {l : List ℕ} {c : Chip} {b v : ℕ} (bit : Bool) → Holds l c b → v ≡ get_or l FLAGS 0 / 8 * 8 + get_or l FLAGS 0 % 4 + 4 * cond bit 1 0
    → Holds (set l FLAGS v) (with_named c (with_picture (named c) bit)) b
then_picture {l} {v = v} bit h e =
    let f = picture_put (get_or l FLAGS 0) v (cond bit 1 0) (below_two bit) e in
    then_flags v h f.spare (rw f.reading (reading-held h)) (rw f.turn (turn_held h)) (tested bit f.picture)

-- the turn is set by a callee, which says so of the bytes that it got
pub turned : {l m : List ℕ} {c : Chip} {b : ℕ} (bit : Bool) → Holds l c b → Holds m (with_indexes (view l) (with_turn (view l).indexes bit)) (spare l)
    → Holds m (with_indexes c (with_turn c.indexes bit)) b
turned bit h k = record {
  size = k.size;
  chip = k.chip ∙ ap (λ (d : Chip). with_indexes d (with_turn d.indexes bit)) h.chip;
  spare = k.spare ∙ h.spare;
}

-- the attribute index is written: what is kept of it and the picture, and then the turn
pub then_aimed : {l m : List ℕ} {c : Chip} {b r w : ℕ} (v : ℕ) → Holds l c b → r ≡ index_kept Ar v
    → w ≡ get_or (set l AR_INDEX r) FLAGS 0 / 8 * 8 + get_or (set l AR_INDEX r) FLAGS 0 % 4 + 4 * cond (is_set 5 v) 1 0
    → Holds m (with_indexes (view (set (set l AR_INDEX r) FLAGS w)) (with_turn (view (set (set l AR_INDEX r) FLAGS w)).indexes true)) (spare (set (set l AR_INDEX r) FLAGS w))
    → Holds m (attribute_aimed c v) b
then_aimed {r = r} v h kept lit turn =
    now_holds (turned true (then_picture (is_set 5 v) (then_single AR_INDEX r h (omega arith)) lit) turn) (rw kept)

-- the bits of a mask that a lock leaves are those that are open of it
pub open_bits : (g : Group) (on : Bool) (i m : ℕ) → m < 256 → bit_and m (under_lock g on i 0xFF) ≡ under_lock g on i m
open_bits g on i m h = go on
  where
    go : (z : Bool) → bit_and m (under_lock g z i 0xFF) ≡ under_lock g z i m
    go true =
        let low : m % 256 ≡ m = omega arith in
        let fewer : bit_and m (left_open g i) % 256 ≡ bit_and m (left_open g i) = omega (arith, and_le_l m (left_open g i)) in
        ap (bit_and m) (and_comm 0xFF (left_open g i) ∙ and_mask (left_open g i) 8)
        ∙ (ap (λ (x : ℕ). bit_and x (left_open g i % 256)) (sym low) ∙ (sym (and_mod m (left_open g i) 8) ∙ fewer))
    go false = and_mask m 8 ∙ omega arith

-- a register receives a byte: it is stored where the register stands, by the bits that can be written. An unlisted index has
-- none, so the byte to which it leads stays
module _ (l : List ℕ) (i v m : ℕ) (n : length l ≡ whole) (h : i < 256) where
  in_row_lem : (g : Group) (k : ℕ) → slot_of g i ≡ At k → k < row_size → m ≡ writable_now g (locked g (named (view l))) i
      → Holds (set l (ROW + k) (written (get_or l (ROW + k) 0) v m)) (with_named (view l) (received g (named (view l)) i v)) (spare l)
  unfolding view
  in_row_lem g k e w mask = record {
    size = length-set l (ROW + k) _ ∙ n;
    chip =
        set-row l k (written (get_or l (ROW + k) 0) v m) n w
        ∙ (ap (λ (b : ℕ). shown_by (with_row (laid l) (set (laid l).row k (written b v m)))) (sym (row_at l k w))
        ∙ received-at g (laid l) i k v m h (row-length l) e mask);
    spare = spare-stays l (ROW + k) _ (λ x. omega arith);
  }

  at-msr : m ≡ writable_now Msr (locked Msr (named (view l))) i
      → Holds (set l MSR (written (get_or l MSR 0) v m)) (with_named (view l) (received Msr (named (view l)) i v)) (spare l)
  unfolding view shown_by laid received
  at-msr mask = now_holds (then_single MSR (written (get_or l MSR 0) v m) (as_it_is n) (omega arith)) (rw mask)

  at-palmask : m ≡ writable_now Palmask (locked Palmask (named (view l))) i
      → Holds (set l PALMASK (written (get_or l PALMASK 0) v m)) (with_named (view l) (received Palmask (named (view l)) i v)) (spare l)
  unfolding view shown_by laid received
  at-palmask mask = now_holds (then_single PALMASK (written (get_or l PALMASK 0) v m) (as_it_is n) (omega arith)) (rw mask)

  nowhere : (g : Group) (p : ℕ) → is_indexed g ≡ true → slot_of g i ≡ Nowhere → get_or l p 0 < 256 → m ≡ writable_now g (locked g (named (view l))) i
      → Holds (set l p (written (get_or l p 0) v m)) (with_named (view l) (received g (named (view l)) i v)) (spare l)
  unfolding view
  nowhere g p x e byte mask =
      let same : written (get_or l p 0) v m ≡ get_or l p 0 = rw (mask, none_writable g (locked g (named (view l))) i (nowhere_unlisted g i h x e)) (written_none (get_or l p 0) v byte) in
      rw (same, set_itself l p) (now_holds (as_it_is n) (sym (received_nowhere g (laid l) i v h x e)))

  pub then_received : (g : Group) → get_or l (place_of g i) 0 < 256 → m ≡ writable_now g (locked g (named (view l))) i
      → Holds (set l (place_of g i) (written (get_or l (place_of g i) 0) v m)) (with_named (view l) (received g (named (view l)) i v)) (spare l)
  unfolding place_of base_of standing_of
  then_received g byte mask = go (where_is g i h)
    where
      go : Where g i → Holds (set l (place_of g i) (written (get_or l (place_of g i) 0) v m)) (with_named (view l) (received g (named (view l)) i v)) (spare l)
      go (InRow k e w p q) = rw p (in_row_lem g k e w mask)
      go (IsMsr e) = let mask' = rw e at mask in rw e (at-msr mask')
      go (IsPalmask e) = let mask' = rw e at mask in rw e (at-palmask mask')
      go (Unlisted x e z) = nowhere g (place_of g i) x e byte mask

-- the three bytes of an entry
pub then_colour : {l : List ℕ} {c : Chip} {b : ℕ} (e red green blue : ℕ) → Holds l c b → e < 256
    → Holds (set (set (set l (PALETTE + 3 * e) red) (PALETTE + 3 * e + 1) green) (PALETTE + 3 * e + 2) blue)
    (with_named c (with_palette (named c) (set c.palette e (rgb red green blue)))) b
then_colour {l} e red green blue h w = record {
  size = simp length-set h.size;
  chip = set_colour l e red green blue h.size w ∙ ap (λ (d : Chip). with_named d (with_palette (named d) (set d.palette e (rgb red green blue)))) h.chip;
  spare =
      spare-stays (set (set l (PALETTE + 3 * e) red) (PALETTE + 3 * e + 1) green) (PALETTE + 3 * e + 2) blue (λ x. omega arith)
      ∙ spare-stays (set l (PALETTE + 3 * e) red) (PALETTE + 3 * e + 1) green (λ x. omega arith)
      ∙ spare-stays l (PALETTE + 3 * e) red (λ x. omega arith)
      ∙ h.spare;
}

-- what is read of the palette
pub component-at : (l : List ℕ) (e position : ℕ) → e < 256 → component (entry (named (view l)) e) position ≡ get_or l (PALETTE + 3 * e + third_of position) 0
component-at l e k h = rw (get_colour l e h) (go (eqb k 2) (eqb k 1))
  where
    go : (a b : Bool)
        → cond a (get_or l (PALETTE + (3 * e + 2)) 0) (cond b (get_or l (PALETTE + (3 * e + 1)) 0) (get_or l (PALETTE + 3 * e) 0)) ≡ get_or l (PALETTE + 3 * e + cond a 2 (cond b 1 0)) 0
    go true b = let x : PALETTE + 3 * e + 2 ≡ PALETTE + (3 * e + 2) = omega arith in rw x
    go false true = let x : PALETTE + 3 * e + 1 ≡ PALETTE + (3 * e + 1) = omega arith in rw x
    go false false = let x : PALETTE + 3 * e + 0 ≡ PALETTE + 3 * e = omega arith in rw x

pub shown-at : (l : List ℕ) → get_or l INDEX 0 < 256
    → component (entry (named (view l)) (view l).loading.index) (view l).loading.position ≡ get_or l (PALETTE + 3 * get_or l INDEX 0 + third_of (get_or l POSITION 0)) 0
unfolding view shown_by laid
shown-at l h = component-at l (get_or l INDEX 0) (get_or l POSITION 0) h

pub index-byte : (l : List ℕ) → (view l).loading.index ≡ get_or l INDEX 0
unfolding view shown_by laid
index-byte l = refl

-- the three flags and the attribute index, as the code reads them
pub reading-bit : (l : List ℕ) → (view l).loading.reading ≡ eqb (get_or l FLAGS 0 % 2) 1
unfolding view shown_by laid
reading-bit l = refl

pub turn_bit : (l : List ℕ) → (view l).indexes.turn ≡ eqb (get_or l FLAGS 0 / 2 % 2) 1
unfolding view shown_by laid
turn_bit l = refl

pub picture_bit : (l : List ℕ) → (view l).picture ≡ eqb (get_or l FLAGS 0 / 4 % 2) 1
unfolding view shown_by laid
picture_bit l = refl

pub attribute_byte : (l : List ℕ) → (view l).indexes.ar ≡ get_or l AR_INDEX 0
unfolding view shown_by laid
attribute_byte l = refl
