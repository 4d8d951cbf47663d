-- The attribute registers by ports. Document 02, P1: what 3C0h, 3C1h and the two status ports do, read and written, for every
-- state with open ports. From the index's turn an index and then a byte are a write by name; the index reads back without bits 6
-- and 7; reading index or data leaves the whole state; reading the status port that is picked returns the turn, and the other one
-- leaves it.
use Rattle.std.proofs.Common.{◌≡◌, ℕ, ◌+◌, ◌%◌, Bool, true, false, cond, refl, ap, ◌∙◌, arith, eqb-true}
use borrow.Author.Tests.{eqb-false}
use Rattle.lists.specs.Bits.{bit, is_set}
use Rattle.chip_registers.specs.Indexes.{index_kept}
use Rattle.chip_registers.specs.declared.Group.TheVariants.{Ar}
use Rattle.chip_ports.specs.Ports.{ports, target}
use Rattle.chip.specs.State.{Chip, named, join, with_picture, with_turn, index_of, with_index}
use Rattle.chip.specs.Names.{register, received, ports_open, picks3_dx}
use Rattle.chip.specs.Attribute.{attribute_index, attribute_aimed, attribute_set, turn_returned}
use Rattle.chip.specs.Access.{Seen, Wrote, attribute_wrote, port_written, port_read, untold, told, seen}
use Rattle.chip.proofs.AccessLaws.{write_open, read_open}
use Rattle.std.specs.Prelude.{Ok, Err}
use Rattle.chip.specs.declared.access.AccessError.TheVariants.{Unlisted}

-- by the turn: the register at the index receives the byte, or the index is written
pub attribute_data : (c : Chip) (v : ℕ) → c.indexes.turn ≡ true → attribute_wrote c v ≡ told Ar (index_of Ar c.indexes) c (attribute_set c v)
attribute_data c v turn = rw turn

pub attribute_index_lem : (c : Chip) (v : ℕ) → c.indexes.turn ≡ false → attribute_wrote c v ≡ untold (Ok tt) (attribute_aimed c v)
attribute_index_lem c v turn = rw turn

module _ (c : Chip) (free : ports_open (named c) ≡ true) where
  pub attribute_written : (v : ℕ) → port_written c 0x3C0 v ≡ attribute_wrote c v
  unfolding target ports
  attribute_written v = write_open c 0x3C0 free v

  pub attribute_aimed_lem : (v : ℕ) → c.indexes.turn ≡ false → port_written c 0x3C0 v ≡ untold (Ok tt) (attribute_aimed c v)
  attribute_aimed_lem v turn = attribute_written v ∙ attribute_index_lem c v turn

  pub attribute_set_lem : (v : ℕ) → c.indexes.turn ≡ true → port_written c 0x3C0 v ≡ told Ar (index_of Ar c.indexes) c (attribute_set c v)
  attribute_set_lem v turn = attribute_written v ∙ attribute_data c v turn

  pub attribute_index-read : port_read c 0x3C0 ≡ seen (Ok tt) (attribute_index c) c
  unfolding target ports
  attribute_index-read = read_open c 0x3C0 free

  pub attribute_data-read : port_read c 0x3C1 ≡ seen (Ok tt) (register Ar (named c) (index_of Ar c.indexes)) c
  unfolding target ports
  attribute_data-read = read_open c 0x3C1 free

  -- input status 1 is read at 3DAh or 3BAh, by MSR bit 0; the other port reads FFh
  pub status_read : (b : Bool) → picks3_dx (named c) ≡ b → port_read c (cond b 0x3DA 0x3BA) ≡ seen (Ok tt) 0x00 (turn_returned c)
  unfolding target ports
  status_read true picks = read_open c 0x3DA free ∙ rw picks
  status_read false picks = read_open c 0x3BA free ∙ rw picks

  pub status_not_picked : (b : Bool) → picks3_dx (named c) ≡ b → port_read c (cond b 0x3BA 0x3DA) ≡ seen (Ok tt) 0xFF c
  unfolding target ports
  status_not_picked true picks = read_open c 0x3BA free ∙ rw picks
  status_not_picked false picks = read_open c 0x3DA free ∙ rw picks

  -- the other directions are not listed
  pub attribute_not_written : (v : ℕ)
      → (port_written c 0x3C1 v ≡ untold (Err Unlisted) c) × (port_written c 0x3BA v ≡ untold (Err Unlisted) c) × (port_written c 0x3DA v ≡ untold (Err Unlisted) c)
  unfolding target ports
  attribute_not_written v = (write_open c 0x3C1 free v, write_open c 0x3BA free v, write_open c 0x3DA free v)

  -- an index and then a byte, from the index's turn: a write by name, under the picture that the index brings
  pub attribute_by_port : (v b : ℕ) → c.indexes.turn ≡ false
      → port_written (port_written c 0x3C0 v).chip 0x3C0 b
      ≡ told Ar (v % 32) (attribute_aimed c v) (join (received Ar (with_picture (named c) (is_set 5 v)) (v % 32) b) (with_turn (with_index Ar c.indexes v) false) c.loading)
  unfolding ports_open target ports index_kept
  attribute_by_port v b turn =
      let five : v % 32 % 32 ≡ v % 32 = omega arith in
      ap (λ (w : Wrote). port_written w.chip 0x3C0 b) (attribute_aimed_lem v turn)
      ∙ write_open (attribute_aimed c v) 0x3C0 free b
      ∙ rw five

  six_bits : (v : ℕ) (z : Bool) → is_set 5 v ≡ z → v % 32 % 32 + cond z 0x20 0x00 ≡ v % 64
  six_bits v true e = let h : bit 5 v ≡ 1 = eqb-true _ _ e in omega arith
  six_bits v false e = let h : bit 5 v ≡ 1 → ⊥ = eqb-false _ _ e in omega arith

  -- the index reads back, bits 6 and 7 as 0
  pub attribute_reads_back : (v : ℕ) → c.indexes.turn ≡ false → (port_read (port_written c 0x3C0 v).chip 0x3C0).value ≡ v % 64
  unfolding ports_open target ports index_kept
  attribute_reads_back v turn =
      ap (λ (w : Wrote). (port_read w.chip 0x3C0).value) (attribute_aimed_lem v turn)
      ∙ ap (λ (s : Seen). s.value) (read_open (attribute_aimed c v) 0x3C0 free)
      ∙ six_bits v (is_set 5 v) refl
