-- The row and the tables: a register by name is the byte at its place, a byte stored at a place is that register replaced, of
-- whatever group, and what is shown decides what is kept. One argument serves all groups: two names never have one place, and
-- every place has a name (RowLaws of crate `chip_registers`). Which states are shown is in KeptLaws.
use Rattle.std.proofs.Common.{◌≡◌, ℕ, zero, suc, ◌<◌, Bool, true, false, cond, not, ◌&&◌, ◌||◌, List, [], ◌∷◌, length, get_or, set, sym, refl, ap, ◌∙◌, true≢false, arith, get_or-set_other, get_or-set_same, ext_get_or}
use lib.Bits.{and_zero_l}
use Rattle.lists.specs.Scan.{every}
use Rattle.lists.proofs.Tab.{tab-at, tab-same, tab-set}
use Rattle.std.proofs.lemmas.Bool.{and_parts}
use Rattle.chip_registers.specs.Groups.{group_at, is, is_indexed, row_of, writable_in}
use Rattle.chip_registers.specs.Row.{Slot, At, Nowhere, slot_of, row_size}
use Rattle.chip_registers.specs.WriteRule.{left_open, under_lock, writable_now, written}
use Rattle.chip_registers.specs.declared.Group.{Group}
use Rattle.chip_registers.specs.declared.Group.TheVariants.{Cr, Sr, Gr, Xr, Fr, Mr, Msr, Palmask, Ar}
use Rattle.chip_registers.proofs.TableLaws.{every_group, is_same}
use Rattle.chip_registers.proofs.RowLaws.{stands, slot-one, nowhere_unlisted, unlisted_nowhere, group_on, index_on, index_on_lem, each-slot}
use Rattle.chip_registers.proofs.WriteLaws.{written_none}
use Rattle.chip.specs.State.{Chip, Named, named, with_named, with_picture}
use Rattle.chip.specs.Names.{register, replaced, locked, received}
use Rattle.chip.specs.View.{in_row, table_from, view, Shows}
use Rattle.chip.specs.declared.Chip.{Chip as Kept}
use Rattle.chip.proofs.Banks.{is_self}
use Rattle.std.specs.Prelude.{Option, Some, None}
use Rattle.chip_registers.specs.declared.Row.{Row}
use Rattle.chip_registers.specs.Rows.{listed}

-- ---- a register of the row

-- the tables show the byte at the place of a register
pub shown-at : (g : Group) (f : Kept) (i : ℕ) → i < 256 → is_indexed g ≡ true → register g (named (view f)) i ≡ in_row f.row (slot_of g i)
unfolding view
shown-at Cr f i h x = tab-at (λ j. in_row f.row (slot_of Cr j)) 256 i 0 h
shown-at Sr f i h x = tab-at (λ j. in_row f.row (slot_of Sr j)) 256 i 0 h
shown-at Gr f i h x = tab-at (λ j. in_row f.row (slot_of Gr j)) 256 i 0 h
shown-at Xr f i h x = tab-at (λ j. in_row f.row (slot_of Xr j)) 256 i 0 h
shown-at Fr f i h x = tab-at (λ j. in_row f.row (slot_of Fr j)) 256 i 0 h
shown-at Mr f i h x = tab-at (λ j. in_row f.row (slot_of Mr j)) 256 i 0 h
shown-at Msr f i h x = absurd (true≢false (sym x))
shown-at Palmask f i h x = absurd (true≢false (sym x))
shown-at Ar f i h x = tab-at (λ j. in_row f.row (slot_of Ar j)) 256 i 0 h

-- so a place of the row is read by the name of its register
pub place-shown : (f : Kept) (k : ℕ) → k < row_size → register (group_on k) (named (view f)) (index_on k) ≡ get_or f.row k 0
place-shown f k h =
    shown-at (group_on k) f (index_on k) (index_on_lem k) (stands (group_on k) (index_on k) k (index_on_lem k) (each-slot k h)).listed
    ∙ ap (in_row f.row) (each-slot k h)

-- MSR and PALMASK are listed at whatever index
pub one-register : (g : Group) (i : ℕ) → is_indexed g ≡ false → row_of g i ≡ None → ⊥
unfolding row_of
one-register g i x e = go g x e
  where
    is_listed : Option Row → Bool
    is_listed (Some row) = true
    is_listed None = false

    go : (g : Group) → is_indexed g ≡ false → row_of g i ≡ None → ⊥
    go Cr x e = true≢false x
    go Sr x e = true≢false x
    go Gr x e = true≢false x
    go Xr x e = true≢false x
    go Fr x e = true≢false x
    go Mr x e = true≢false x
    go Msr x e = true≢false (ap is_listed e)
    go Palmask x e = true≢false (ap is_listed e)
    go Ar x e = true≢false x

-- an unlisted index reads 00h in every state that is shown, reached or not
pub unlisted_shows_00 : (g : Group) (f : Kept) (i : ℕ) → i < 256 → row_of g i ≡ None → register g (named (view f)) i ≡ 0x00
unlisted_shows_00 g f i h e = go (is_indexed g) refl
  where
    go : (z : Bool) → is_indexed g ≡ z → register g (named (view f)) i ≡ 0x00
    go true x = shown-at g f i h x ∙ ap (in_row f.row) (unlisted_nowhere g i h e)
    go false x = absurd (one-register g i x e)

-- what is beside the row is shown as it is kept
pub picture_shown : (f : Kept) (lit : Bool)
    → view (record { row = f.row; msr = f.msr; palmask = f.palmask; picture = lit; palette = f.palette; indexes = f.indexes; loading = f.loading })
    ≡ with_named (view f) (with_picture (named (view f)) lit)
unfolding view
picture_shown f lit = refl

pub loading_shown : (f : Kept) → (view f).loading ≡ f.loading
unfolding view
loading_shown f = refl

pub indexes-shown : (f : Kept) → (view f).indexes ≡ f.indexes
unfolding view
indexes-shown f = refl

-- ---- a byte stored in the row

-- what is kept, with another row
abbrev pub with_row : Kept → List ℕ → Kept
with_row k r = record {
  row = r;
  msr = k.msr;
  palmask = k.palmask;
  picture = k.picture;
  palette = k.palette;
  indexes = k.indexes;
  loading = k.loading;
}

-- in its group's table that register's byte is replaced, and nothing in any other table
module _ (r : List ℕ) (g : Group) (i k b : ℕ) (h : i < 256) (room : k < length r) (e : slot_of g i ≡ At k) where
  away : (d : Group) (j : ℕ) → (slot_of d j ≡ At k → ⊥) → in_row (set r k b) (slot_of d j) ≡ in_row r (slot_of d j)
  away d j n = go (slot_of d j) n
    where
      go : (s : Slot) → (s ≡ At k → ⊥) → in_row (set r k b) s ≡ in_row r s
      go (At x) w = get_or-set_other r k x b 0 (λ t. w (ap At t))
      go Nowhere w = refl

  pub table_set : (d : Group) → table_from (set r k b) d ≡ cond (is g d) (set (table_from r d) i b) (table_from r d)
  table_set d = go (is g d) refl
    where
      go : (z : Bool) → is g d ≡ z → table_from (set r k b) d ≡ cond z (set (table_from r d) i b) (table_from r d)
      go true t =
          rw (← is_same g d t)
          (tab-set (λ j. in_row r (slot_of g j)) (λ j. in_row (set r k b) (slot_of g j)) 256 i h
          (λ j w n. away g j (λ p. n (sym (slot-one g g i j k h w e p).1)))
          ∙ ap (set (table_from r g) i) (ap (in_row (set r k b)) e ∙ get_or-set_same r k b 0 room))
      go false t =
          tab-same (λ j. in_row (set r k b) (slot_of d j)) (λ j. in_row r (slot_of d j)) 256
          (λ j w. away d j (λ p. true≢false (sym (is_self g) ∙ (ap (is g) (slot-one g d i j k h w e p).0 ∙ t))))

-- a group that has an index is neither MSR nor PALMASK
beside : (g : Group) → is_indexed g ≡ true → (is g Msr ≡ false) × (is g Palmask ≡ false)
unfolding group_at every
beside g x =
    let t : (not (is_indexed g) || (not (is g Msr) && not (is g Palmask))) ≡ true =
    every_group (λ h. not (is_indexed h) || (not (is h Msr) && not (is h Palmask))) refl g in
    let (a, b) = and_parts (not (is g Msr)) (not (is g Palmask)) (rw x at t) in
    (none (is g Msr) a, none (is g Palmask) b)
  where
    none : (z : Bool) → not z ≡ true → z ≡ false
    none true n = absurd (true≢false (sym n))
    none false n = refl

-- a byte stored at a register's place is that register replaced, of whatever group
pub row-set : (g : Group) (f : Kept) (i k b : ℕ) → i < 256 → length f.row ≡ row_size → slot_of g i ≡ At k
    → view (with_row f (set f.row k b)) ≡ with_named (view f) (replaced g (named (view f)) i b)
unfolding view
row-set g f i k b h n e =
    let s = stands g i k h e in
    let room : k < length f.row = rw n s.within in
    let (not-msr, not-palmask) = beside g s.listed in
    λ t. record {
      cr = table_set f.row g i k b h room e Cr t;
      sr = table_set f.row g i k b h room e Sr t;
      gr = table_set f.row g i k b h room e Gr t;
      xr = table_set f.row g i k b h room e Xr t;
      fr = table_set f.row g i k b h room e Fr t;
      mr = table_set f.row g i k b h room e Mr t;
      ar = table_set f.row g i k b h room e Ar t;
      msr = sym (ap (λ (z : Bool). cond z b f.msr) not-msr) t;
      palmask = sym (ap (λ (z : Bool). cond z b f.palmask) not-palmask) t;
      picture = f.picture;
      palette = f.palette;
      indexes = f.indexes;
      loading = f.loading;
    }

-- a register of the row receives a byte: it is stored at its place by the bits that can be written
pub received-at : (g : Group) (f : Kept) (i k v m : ℕ) → i < 256 → length f.row ≡ row_size → slot_of g i ≡ At k
    → m ≡ writable_now g (locked g (named (view f))) i
    → view (with_row f (set f.row k (written (get_or f.row k 0) v m))) ≡ with_named (view f) (received g (named (view f)) i v)
unfolding received
received-at g f i k v m h n e w =
    row-set g f i k (written (get_or f.row k 0) v m) h n e
    ∙ rw (w, shown-at g f i h (stands g i k h e).listed, e)

-- a byte replaced by itself, and a register
pub set_itself : (l : List ℕ) (k : ℕ) → set l k (get_or l k 0) ≡ l
set_itself [] k = refl
set_itself (x ∷ l) zero = refl
set_itself (x ∷ l) (suc k) = ap (λ (t : List ℕ). x ∷ t) (set_itself l k)

replaced_itself : (g : Group) (n : Named) (i : ℕ) → replaced g n i (register g n i) ≡ n
replaced_itself Cr n i = rw (set_itself n.cr i)
replaced_itself Sr n i = rw (set_itself n.sr i)
replaced_itself Gr n i = rw (set_itself n.gr i)
replaced_itself Xr n i = rw (set_itself n.xr i)
replaced_itself Fr n i = rw (set_itself n.fr i)
replaced_itself Mr n i = rw (set_itself n.mr i)
replaced_itself Msr n i = refl
replaced_itself Palmask n i = refl
replaced_itself Ar n i = rw (set_itself n.ar i)

-- an unlisted index has no bit that can be written, and keeps its 00h: a byte that it receives changes nothing
pub none_writable : (g : Group) (on : Bool) (i : ℕ) → row_of g i ≡ None → writable_now g on i ≡ 0x00
unfolding writable_now
none_writable g on i none = rw (ap writable_in none) (go on)
  where
    go : (z : Bool) → under_lock g z i 0x00 ≡ 0x00
    go true = and_zero_l (left_open g i)
    go false = refl

pub received_nowhere : (g : Group) (f : Kept) (i v : ℕ) → i < 256 → is_indexed g ≡ true → slot_of g i ≡ Nowhere
    → with_named (view f) (received g (named (view f)) i v) ≡ view f
unfolding received
received_nowhere g f i v h x e =
    let old : register g (named (view f)) i ≡ 0x00 = shown-at g f i h x ∙ ap (in_row f.row) e in
    let below : 0x00 < 0x100 = omega arith in
    let same : written (register g (named (view f)) i) v (writable_now g (locked g (named (view f))) i) ≡ register g (named (view f)) i =
    rw (none_writable g (locked g (named (view f))) i (nowhere_unlisted g i h x e), old) (written_none 0x00 v below) in
    ap (λ (b : ℕ). with_named (view f) (replaced g (named (view f)) i b)) same ∙ ap (with_named (view f)) (replaced_itself g (named (view f)) i)

-- ---- what is shown decides what is kept
same_row : (e f : Kept) → length e.row ≡ row_size → length f.row ≡ row_size → view e ≡ view f → e.row ≡ f.row
same_row e f m n p =
    ext_get_or 0 e.row f.row (m ∙ sym n)
    (λ k h. let w : k < row_size = rw m at h in
    sym (place-shown e k w) ∙ (ap (λ (c : Chip). register (group_on k) (named c) (index_on k)) p ∙ place-shown f k w))

pub view_decides : (e f : Kept) → length e.row ≡ row_size → length f.row ≡ row_size → view e ≡ view f → e ≡ f
unfolding view
view_decides e f m n p = λ i. record {
  row = same_row e f m n p i;
  msr = (p i).msr;
  palmask = (p i).palmask;
  picture = (p i).picture;
  palette = (p i).palette;
  indexes = (p i).indexes;
  loading = (p i).loading;
}

pub shows_decides : (e f : Kept) (c : Chip) → Shows e c → Shows f c → e ≡ f
shows_decides e f c s t = view_decides e f s.size t.size (s.chip ∙ sym t.chip)
