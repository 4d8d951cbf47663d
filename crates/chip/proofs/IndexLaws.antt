-- The six index registers with a port of their own. Document 01, "Ports": index ports can be read; document 02, P5: each keeps
-- the bits that its chapter shows. An index reads back the bits of it that are kept, and a write to one leaves the others: over
-- the indexes first, then through the ports. An index and then a byte through the ports are a write by name, and a long index
-- is the short one onto which it folds. The CR pair that is not picked has no index to read or write, and MSR bit 0 picks.
use Rattle.std.proofs.Common.{◌≡◌, ℕ, Bool, true, false, cond, eqb, sym, refl, ap, ◌∙◌, arith, ne_eqb}
use Rattle.lists.specs.Bits.{is_set}
use Rattle.chip_registers.specs.Groups.{number_of, is, row_of}
use Rattle.chip_registers.specs.Indexes.{index_kept}
use Rattle.chip_registers.specs.WriteRule.{locked_by, writable_now}
use Rattle.chip_registers.proofs.IndexLaws.{kept_again}
use Rattle.chip_registers.specs.declared.Group.{Group}
use Rattle.chip_registers.specs.declared.Group.TheVariants.{Cr, Sr, Gr, Xr, Fr, Mr, Msr, Palmask, Ar}
use Rattle.chip_ports.specs.Ports.{ports, target}
use Rattle.chip_ports.specs.declared.Target.TheVariants.{Index, Data}
use Rattle.chip.specs.State.{Chip, Named, named, join, with_named, with_indexes, with_turn, index_byte, with_index_byte, index_of, with_index}
use Rattle.chip.specs.Names.{locked, received, ports_open, picks3_dx}
use Rattle.chip.specs.Access.{Seen, port_written, port_read, untold, told, seen}
use Rattle.chip.specs.declared.Indexes.{Indexes}
use Rattle.chip.proofs.NameLaws.{received-bit, received_other}
use Rattle.chip.proofs.AccessLaws.{write_open, read_open, write_data}
use Rattle.std.specs.Prelude.{Ok}

-- the bytes that hold the indexes, after one index is written: what is kept of it, and the others as they were
pub byte-written : (g : Group) (x : Indexes) (v : ℕ) → index_byte g (with_index g x v) ≡ index_kept g v
unfolding index_kept
byte-written Cr x v = refl
byte-written Sr x v = refl
byte-written Gr x v = refl
byte-written Xr x v = refl
byte-written Fr x v = refl
byte-written Mr x v = refl
byte-written Msr x v = omega arith
byte-written Palmask x v = omega arith
byte-written Ar x v = refl

pub byte_other : (g h : Group) (x : Indexes) (v : ℕ) → is g h ≡ false → index_byte h (with_index g x v) ≡ index_byte h x
byte_other g Cr x v e = rw e
byte_other g Sr x v e = rw e
byte_other g Gr x v e = rw e
byte_other g Xr x v e = rw e
byte_other g Fr x v e = rw e
byte_other g Mr x v e = rw e
byte_other g Msr x v e = refl
byte_other g Palmask x v e = refl
byte_other g Ar x v e = rw e

-- so an index that was written holds the bits of it that are kept, it is the same to write those alone, and the other groups'
-- indexes stay
pub index_same : (g : Group) (x : Indexes) (v : ℕ) → index_of g (with_index g x v) ≡ index_kept g v
index_same g x v = ap (index_kept g) (byte-written g x v) ∙ kept_again g v

pub index_kept_lem : (g : Group) (x : Indexes) (v : ℕ) → with_index g x (index_kept g v) ≡ with_index g x v
index_kept_lem g x v = ap (with_index_byte g x) (kept_again g v)

pub index_other : (g h : Group) (x : Indexes) (v : ℕ) → (number_of g ≡ number_of h → ⊥) → index_of h (with_index g x v) ≡ index_of h x
index_other g h x v other = ap (index_kept h) (byte_other g h x v (ne_eqb (number_of g) (number_of h) other))

-- the turn is no index
pub index_turn : (h : Group) (x : Indexes) (turn : Bool) → index_byte h (with_turn x turn) ≡ index_byte h x
index_turn Cr x turn = refl
index_turn Sr x turn = refl
index_turn Gr x turn = refl
index_turn Xr x turn = refl
index_turn Fr x turn = refl
index_turn Mr x turn = refl
index_turn Msr x turn = refl
index_turn Palmask x turn = refl
index_turn Ar x turn = refl

-- through the ports: what a write to an index port leaves, and what index ports read then
module _ (c : Chip) (p v : ℕ) (g : Group) (free : ports_open (named c) ≡ true) (writes : target (picks3_dx (named c)) true p ≡ Index g) where
  pub write_index : port_written c p v ≡ untold (Ok tt) (with_indexes c (with_index g c.indexes v))
  write_index = write_open c p free v ∙ rw writes refl

  now_reads : (q : ℕ) (h : Group) → target (picks3_dx (named c)) false q ≡ Index h
      → port_read (port_written c p v).chip q ≡ seen (Ok tt) (index_of h (with_index g c.indexes v)) (port_written c p v).chip
  now_reads q h reads = rw write_index (read_open (with_indexes c (with_index g c.indexes v)) q free ∙ rw reads refl)

  pub index-reads_back : target (picks3_dx (named c)) false p ≡ Index g → port_read (port_written c p v).chip p ≡ seen (Ok tt) (index_kept g v) (port_written c p v).chip
  index-reads_back reads = now_reads p g reads ∙ ap (λ (b : ℕ). seen (Ok tt) b (port_written c p v).chip) (index_same g c.indexes v)

  pub index_reads_other : (q : ℕ) (h : Group) → (number_of g ≡ number_of h → ⊥) → target (picks3_dx (named c)) false q ≡ Index h
      → (port_read (port_written c p v).chip q).value ≡ (port_read c q).value
  index_reads_other q h other reads =
      ap (λ (s : Seen). s.value) (now_reads q h reads) ∙ index_other g h c.indexes v other
      ∙ sym (rw (read_open c q free, reads) refl)

  -- an index and then a byte: the register at the bits that are kept receives the byte, as by name
  pub register_by_ports : (q b : ℕ) → target (picks3_dx (named c)) true q ≡ Data g
      → port_written (port_written c p v).chip q b
      ≡ told g (index_kept g v) c (join (received g (named c) (index_kept g v) b) (with_index g c.indexes v) c.loading)
  register_by_ports q b data-port =
      rw write_index (write_data (with_indexes c (with_index g c.indexes v)) q free g b data-port)
      ∙ ap (λ (i : ℕ). told g i c (join (received g (named c) i b) (with_index g c.indexes v) c.loading)) (index_same g c.indexes v)

-- a long index folds onto a short one
pub index_folds : (c : Chip) (p v : ℕ) (g : Group) → ports_open (named c) ≡ true → target (picks3_dx (named c)) true p ≡ Index g
    → port_written c p v ≡ port_written c p (index_kept g v)
index_folds c p v g free writes =
    write_index c p v g free writes ∙ ap (λ (x : Indexes). untold (Ok tt) (with_indexes c x)) (sym (index_kept_lem g c.indexes v))
    ∙ sym (write_index c p (index_kept g v) g free writes)

-- the pair that MSR bit 0 does not pick reads FFh and writes nothing, its index port like its data port
pub pair_not_picked : (c : Chip) → ports_open (named c) ≡ true → (b : Bool) → picks3_dx (named c) ≡ b → (v : ℕ)
    → (port_read c (cond b 0x3B4 0x3D4) ≡ seen (Ok tt) 0xFF c) × (port_written c (cond b 0x3B4 0x3D4) v ≡ untold (Ok tt) c)
    × (port_read c (cond b 0x3B5 0x3D5) ≡ seen (Ok tt) 0xFF c) × (port_written c (cond b 0x3B5 0x3D5) v ≡ untold (Ok tt) c)
unfolding target ports
pair_not_picked c free true picks v =
    (read_open c 0x3B4 free ∙ rw picks, write_open c 0x3B4 free v ∙ rw picks, read_open c 0x3B5 free ∙ rw picks, write_open c 0x3B5 free v ∙ rw picks)
pair_not_picked c free false picks v =
    (read_open c 0x3D4 free ∙ rw picks, write_open c 0x3D4 free v ∙ rw picks, read_open c 0x3D5 free ∙ rw picks, write_open c 0x3D5 free v ∙ rw picks)

-- MSR bit 0 picks the pair, as 3C2h last received it: 1 is 3D4h and 3D5h, 0 is 3B4h and 3B5h. There is one CR index behind both
msr_sets_pair : (n : Named) (v : ℕ) → picks3_dx (received Msr n 0x00 v) ≡ is_set 0 v
unfolding picks3_dx locked locked_by writable_now row_of
msr_sets_pair n v = ap (λ (d : ℕ). eqb d 1) (received-bit 0 Msr n 0x00 v (omega arith) (omega arith))

msr_leaves_ports : (n : Named) (v : ℕ) → ports_open (received Msr n 0x00 v) ≡ ports_open n
unfolding ports_open
msr_leaves_ports n v = ap (is_set 1) (received_other Msr Xr n 0x00 v 0x70 (λ p q. omega arith))

pub msr_picks_pair : (c : Chip) → ports_open (named c) ≡ true → (v : ℕ) (b : Bool) → is_set 0 v ≡ b
    → ((port_read (port_written c 0x3C2 v).chip (cond b 0x3D4 0x3B4)).value ≡ index_of Cr c.indexes)
    × ((port_read (port_written c 0x3C2 v).chip (cond b 0x3B4 0x3D4)).value ≡ 0xFF)
unfolding target ports index_kept
msr_picks_pair c free v b e =
    rw written (ap (λ (s : Seen). s.value) (picked b picks), ap (λ (s : Seen). s.value) (pair_not_picked d open_still b picks 0).0)
  where
    d : Chip
    d = with_named c (received Msr (named c) 0x00 v)

    written : port_written c 0x3C2 v ≡ told Msr 0x00 c d
    written = write_open c 0x3C2 free v

    open_still : ports_open (named d) ≡ true
    open_still = msr_leaves_ports (named c) v ∙ free

    picks : picks3_dx (named d) ≡ b
    picks = msr_sets_pair (named c) v ∙ e

    picked : (b : Bool) → picks3_dx (named d) ≡ b → port_read d (cond b 0x3D4 0x3B4) ≡ seen (Ok tt) (index_of Cr c.indexes) d
    picked true p = read_open d 0x3D4 open_still ∙ rw p
    picked false p = read_open d 0x3B4 open_still ∙ rw p
