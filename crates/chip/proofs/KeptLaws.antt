-- Which states are shown: those whose tables have 256 bytes and 00h where an index is not listed. A reset makes such a state and
-- accesses leave one, from any, so every state that accesses reach is shown by what is kept of it.
use Rattle.std.proofs.Common.{◌≡◌, ℕ, ◌<◌, Bool, true, false, eqb, length, sym, refl, ap, ◌∙◌, arith, eqb-true}
use borrow.Author.Tests.{eqb-false}
use Rattle.lists.specs.Tab.{tab}
use Rattle.lists.proofs.Tab.{tab-length, tab-at, tab-is}
use Rattle.chip_registers.specs.Groups.{is, is_indexed, row_of}
use Rattle.chip_registers.specs.Row.{Slot, At, Nowhere, slot_of, row_size}
use Rattle.chip_registers.specs.declared.Group.{Group}
use Rattle.chip_registers.specs.declared.Group.TheVariants.{Cr, Sr, Gr, Xr, Fr, Mr, Msr, Palmask, Ar}
use Rattle.chip_registers.proofs.TableLaws.{is_same}
use Rattle.chip_registers.proofs.RowLaws.{stands, slot-one, nowhere_unlisted, group_on, index_on, index_on_lem, each-slot}
use Rattle.chip_registers.proofs.WriteLaws.{written_none}
use Rattle.chip.specs.State.{Chip, Named, named, index_of}
use Rattle.chip.specs.Names.{register, locked, received}
use Rattle.chip.specs.Access.{port_written, port_read}
use Rattle.chip.specs.Reset.{reset_byte, reset}
use Rattle.chip.specs.Reach.{Reach, fresh, wrote, saw}
use Rattle.chip.specs.View.{in_row, view, Shows}
use Rattle.chip.specs.declared.Chip.{Chip as Kept}
use Rattle.chip.proofs.Banks.{bank, room, place-room}
use Rattle.chip.proofs.NameLaws.{Has, received-same, received_other, coloured_keeps_register, picture_keeps_register}
use Rattle.chip.proofs.AccessLaws.{named-written, read_keeps_all}
use Rattle.chip.proofs.ResetLaws.{bank-reset, register-reset, reset_unlisted}
use Rattle.chip.proofs.SizeLaws.{length-written}
use Rattle.chip.proofs.ViewLaws.{one-register, none_writable, unlisted_shows_00}
use Rattle.std.specs.Prelude.{None}

-- what is kept of a state: each place has the byte of its register
abbrev pub kept : Chip → Kept
kept c = record {
  row = tab (λ k. register (group_on k) (named c) (index_on k)) row_size;
  msr = c.msr;
  palmask = c.palmask;
  picture = c.picture;
  palette = c.palette;
  indexes = c.indexes;
  loading = c.loading;
}

-- every register has its place, and 00h stands where an index is not listed
abbrev pub Zeros : Named → Type 0
Zeros n = (g : Group) (i : ℕ) → i < 256 → row_of g i ≡ None → register g n i ≡ 0x00

pub record Rowable (n : Named) : Type 0 where
  pub sizes : (g : Group) → length (bank g n) ≡ room g
  pub unlisted : Zeros n

-- ---- such a state is shown by what is kept of it
module _ (c : Chip) (r : Rowable (named c)) where
  -- one register, of whatever group
  back : (g : Group) → is_indexed g ≡ true → (i : ℕ) → i < 256 → in_row (kept c).row (slot_of g i) ≡ register g (named c) i
  back g x i h = go (slot_of g i) refl
    where
      go : (s : Slot) → slot_of g i ≡ s → in_row (kept c).row s ≡ register g (named c) i
      go (At k) e =
          let w : k < row_size = (stands g i k h e).within in
          let (u, v) = slot-one (group_on k) g (index_on k) i k (index_on_lem k) h (each-slot k w) e in
          tab-at (λ j. register (group_on j) (named c) (index_on j)) row_size k 0 w
          ∙ (ap (λ (d : Group). register d (named c) (index_on k)) u ∙ ap (register g (named c)) v)
      go Nowhere e = sym (r.unlisted g i h (nowhere_unlisted g i h x e))

  pub kept_shows : Shows (kept c) c
  unfolding view
  kept_shows = record {
    size = tab-length (λ k. register (group_on k) (named c) (index_on k)) row_size;
    chip = λ t. record {
      cr = tab-is (λ i. in_row (kept c).row (slot_of Cr i)) 256 c.cr (r.sizes Cr) (back Cr refl) t;
      sr = tab-is (λ i. in_row (kept c).row (slot_of Sr i)) 256 c.sr (r.sizes Sr) (back Sr refl) t;
      gr = tab-is (λ i. in_row (kept c).row (slot_of Gr i)) 256 c.gr (r.sizes Gr) (back Gr refl) t;
      xr = tab-is (λ i. in_row (kept c).row (slot_of Xr i)) 256 c.xr (r.sizes Xr) (back Xr refl) t;
      fr = tab-is (λ i. in_row (kept c).row (slot_of Fr i)) 256 c.fr (r.sizes Fr) (back Fr refl) t;
      mr = tab-is (λ i. in_row (kept c).row (slot_of Mr i)) 256 c.mr (r.sizes Mr) (back Mr refl) t;
      ar = tab-is (λ i. in_row (kept c).row (slot_of Ar i)) 256 c.ar (r.sizes Ar) (back Ar refl) t;
      msr = c.msr;
      palmask = c.palmask;
      picture = c.picture;
      palette = c.palette;
      indexes = c.indexes;
      loading = c.loading;
    };
  }

-- ---- what is shown is such a state
pub view_rowable : (f : Kept) → Rowable (named (view f))
unfolding view
view_rowable f = record { sizes = sizes; unlisted = λ g i h e. unlisted_shows_00 g f i h e }
  where
    sizes : (g : Group) → length (bank g (named (view f))) ≡ room g
    sizes Cr = tab-length (λ i. in_row f.row (slot_of Cr i)) 256
    sizes Sr = tab-length (λ i. in_row f.row (slot_of Sr i)) 256
    sizes Gr = tab-length (λ i. in_row f.row (slot_of Gr i)) 256
    sizes Xr = tab-length (λ i. in_row f.row (slot_of Xr i)) 256
    sizes Fr = tab-length (λ i. in_row f.row (slot_of Fr i)) 256
    sizes Mr = tab-length (λ i. in_row f.row (slot_of Mr i)) 256
    sizes Msr = refl
    sizes Palmask = refl
    sizes Ar = tab-length (λ i. in_row f.row (slot_of Ar i)) 256

-- ---- a reset makes such a state
pub reset_rowable : (first second : ℕ) → Rowable (named (reset first second))
reset_rowable first second = record {
  sizes = λ g. ap length (bank-reset first second g) ∙ tab-length (reset_byte first second g) (room g);
  unlisted = λ g i h e. register-reset first second g i h ∙ reset_unlisted first second g i e;
}

-- ---- an access leaves such a state: what an unlisted index receives is nothing
received-zeros : (g : Group) (n : Named) (i v : ℕ) → Rowable n → Zeros (received g n i v)
received-zeros g n i v r h j w none = go (is g h) (eqb i j) refl refl
  where
    there : Has h n j
    there = rw (r.sizes h) (place-room h j w)

    indexed : is_indexed h ≡ true
    indexed = which (is_indexed h) refl
      where
        which : (z : Bool) → is_indexed h ≡ z → z ≡ true
        which true x = refl
        which false x = absurd (one-register h j x none)

    itself : register h (received h n j v) j ≡ 0x00
    itself =
        let below : 0x00 < 0x100 = omega arith in
        received-same h n j v there ∙ rw (r.unlisted h j w none, none_writable h (locked h n) j none) (written_none 0x00 v below)

    go : (y z : Bool) → is g h ≡ y → eqb i j ≡ z → register h (received g n i v) j ≡ 0x00
    go true true x e = rw (is_same g h x, eqb-true i j e) itself
    go true false x e = received_other g h n i v j (λ _ p. eqb-false i j e (rw indexed at p)) ∙ r.unlisted h j w none
    go false z x e = received_other g h n i v j (λ p _. eqb-false _ _ x p) ∙ r.unlisted h j w none

pub written_rowable : (c : Chip) (p v : ℕ) → Rowable (named c) → Rowable (named (port_written c p v).chip)
written_rowable c p v r = record {
  sizes = λ g. length-written g c p v ∙ r.sizes g;
  unlisted =
      named-written Zeros c v r.unlisted (λ g. received-zeros g (named c) (index_of g c.indexes) v r)
      (λ e red green blue g i h none. coloured_keeps_register g (named c) e red green blue i ∙ r.unlisted g i h none)
      (λ lit g i h none. picture_keeps_register g (named c) lit i ∙ r.unlisted g i h none) p;
}

pub read_rowable : (c : Chip) (p : ℕ) → Rowable (named c) → Rowable (named (port_read c p).chip)
read_rowable c p r = rw (read_keeps_all c p).0 r

-- every state that accesses reach is matched
pub reached_rowable : {first second : ℕ} {c : Chip} → Reach first second c → Rowable (named c)
reached_rowable {first} {second} fresh = reset_rowable first second
reached_rowable (wrote {c} p v hv r) = written_rowable c p v (reached_rowable r)
reached_rowable (saw {c} p r) = read_rowable c p (reached_rowable r)

pub reached-shown : {first second : ℕ} {c : Chip} → Reach first second c → Shows (kept c) c
reached-shown {c = c} r = kept_shows c (reached_rowable r)
