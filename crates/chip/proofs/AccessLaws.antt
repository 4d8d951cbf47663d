-- What port accesses can and cannot do, for every state, port and byte: closed and open ports, data ports as access by name,
-- what a read and a write leave alone, CR11's protection and the picture's. The numbers are in NumberLaws, the index ports in
-- IndexLaws, the attribute port in AttributeLaws.
use Rattle.std.proofs.Common.{◌≡◌, ℕ, ◌<◌, Bool, true, false, cond, ◌||◌, eqb, refl, ap, ◌∙◌, arith, ne_eqb, eqb-true}
use Rattle.lists.specs.Bits.{bit}
use Rattle.lists.proofs.Bits.{zero_bit}
use Rattle.lists.specs.Scan.{every}
use Rattle.lists.proofs.Scan.{every-at}
use Rattle.chip_registers.proofs.WriteLaws.{cr00_to_cr06_locked, cr07_bit_4_open, ar00_to_ar0_f_locked}
use Rattle.chip_registers.specs.WriteRule.{locked_by}
use Rattle.chip_registers.specs.declared.Group.{Group}
use Rattle.chip_registers.specs.declared.Group.TheVariants.{Cr, Ar}
use Rattle.chip_ports.specs.Ports.{target}
use Rattle.chip_ports.specs.declared.Target.{Target}
use Rattle.chip_ports.specs.declared.Target.TheVariants.{Index, Data, ReadIndex, WriteIndex, Paldata, Attribute, Status, NotPicked, NotListed}
use Rattle.chip.specs.State.{Chip, Named, named, with_named, with_loading, with_picture, with_turn, index_of}
use Rattle.chip.specs.Names.{register, locked, writable_at, received, ports_open, picks3_dx}
use Rattle.chip.specs.Palette.{loaded, coloured, moved}
use Rattle.chip.specs.Attribute.{attribute_set, attribute_aimed, turn_returned}
use Rattle.chip.specs.Access.{write_to, read_from, port_written, port_read, untold, told, seen}
use Rattle.chip.proofs.NameLaws.{Bytes, received-bytes, received_keeps_bit, coloured_keeps_register, picture_keeps_register}
use Rattle.std.specs.Prelude.{Ok, Err}
use Rattle.chip.specs.declared.access.AccessError.TheVariants.{Closed}

-- where the ports are closed nothing is read and nothing changes
module _ (c : Chip) (p : ℕ) (shut : ports_open (named c) ≡ false) where
  pub write_closed : (v : ℕ) → port_written c p v ≡ untold (Err Closed) c
  unfolding port_written
  write_closed v = rw shut

  pub read_closed : port_read c p ≡ seen (Err Closed) 0xFF c
  unfolding port_read
  read_closed = rw shut

-- where they are open an access is what the port's target says
module _ (c : Chip) (p : ℕ) (free : ports_open (named c) ≡ true) where
  pub write_open : (v : ℕ) → port_written c p v ≡ write_to (target (picks3_dx (named c)) true p) c v
  unfolding port_written
  write_open v = rw free

  pub read_open : port_read c p ≡ read_from (target (picks3_dx (named c)) false p) c
  unfolding port_read
  read_open = rw free

  -- a data port works on the register at the group's index, as by name
  pub write_data : (g : Group) (v : ℕ) → target (picks3_dx (named c)) true p ≡ Data g
      → port_written c p v ≡ told g (index_of g c.indexes) c (with_named c (received g (named c) (index_of g c.indexes) v))
  write_data g v leads = write_open v ∙ rw leads refl

  pub read_data : (g : Group) → target (picks3_dx (named c)) false p ≡ Data g → port_read c p ≡ seen (Ok tt) (register g (named c) (index_of g c.indexes)) c
  read_data g leads = read_open ∙ rw leads refl

-- what holds of the state as it was, and of what a write makes of it at each target, holds after every port write
pub write_cases : (P : Chip → Type 0) (c : Chip) (p v : ℕ) → P c → ((t : Target) → P (write_to t c v).chip) → P (port_written c p v).chip
unfolding port_written
write_cases P c p v same at = go (ports_open (named c))
  where
    go : (z : Bool) → P (cond z (write_to (target (picks3_dx (named c)) true p) c v) (untold (Err Closed) c)).chip
    go true = at (target (picks3_dx (named c)) true p)
    go false = same

-- a port read leaves the state, moves the palette's position or returns the turn; so what holds of these three holds after every
-- port read
pub state_read : (P : Chip → Type 0) (c : Chip) (p : ℕ) → P c → P (with_loading c (moved c.loading)) → P (turn_returned c) → P (port_read c p).chip
unfolding port_read
state_read P c p same move turn = go (ports_open (named c))
  where
    at : (t : Target) → P (read_from t c).chip
    at (Index g) = same
    at (Data g) = same
    at ReadIndex = same
    at WriteIndex = same
    at Paldata = move
    at Attribute = same
    at Status = turn
    at NotPicked = same
    at NotListed = same

    go : (z : Bool) → P (cond z (read_from (target (picks3_dx (named c)) false p) c) (seen (Err Closed) 0xFF c)).chip
    go true = at (target (picks3_dx (named c)) false p)
    go false = same

-- a port read changes nothing but the palette's loading state and the turn
pub read_keeps_all : (c : Chip) (p : ℕ)
    → (named (port_read c p).chip ≡ named c) × (with_turn (port_read c p).chip.indexes false ≡ with_turn c.indexes false)
read_keeps_all c p = state_read (λ d. (named d ≡ named c) × (with_turn d.indexes false ≡ with_turn c.indexes false)) c p (refl, refl) (refl, refl) (refl, refl)

-- what a port write makes of what has a name: the same, a register that received the byte, a colour stored, or the picture on or
-- off; so what holds of these four holds after every port write
module _ (P : Named → Type 0) (c : Chip) (v : ℕ)
    (same : P (named c)) (set : (g : Group) → P (received g (named c) (index_of g c.indexes) v)) (store : (e r g b : ℕ) → P (coloured (named c) e r g b))
    (light : (b : Bool) → P (with_picture (named c) b)) where
  named-loaded : (z : Bool) → P (cond z (coloured (named c) c.loading.index c.loading.red c.loading.green v) (named c))
  named-loaded true = store c.loading.index c.loading.red c.loading.green v
  named-loaded false = same

  named_attribute : (z : Bool) → P (named (cond z (told Ar (index_of Ar c.indexes) c (attribute_set c v)) (untold (Ok tt) (attribute_aimed c v))).chip)
  named_attribute true = set Ar
  named_attribute false = light _

  named-target : (t : Target) → P (named (write_to t c v).chip)
  unfolding loaded
  named-target (Index g) = same
  named-target (Data g) = set g
  named-target ReadIndex = same
  named-target WriteIndex = same
  named-target Paldata = named-loaded (eqb c.loading.position 2)
  named-target Attribute = named_attribute c.indexes.turn
  named-target Status = same
  named-target NotPicked = same
  named-target NotListed = same

  pub named-written : (p : ℕ) → P (named (port_written c p v).chip)
  named-written p = write_cases (λ d. P (named d)) c p v same named-target

-- a port write of a byte leaves bytes in the registers
pub write_bytes : (c : Chip) (p v : ℕ) → v < 0x100 → Bytes (named c) → Bytes (named (port_written c p v).chip)
write_bytes c p v hv bytes =
    named-written Bytes c v bytes (λ g. received-bytes g (named c) (index_of g c.indexes) v hv bytes)
    (λ e r g b h j. rw (coloured_keeps_register h (named c) e r g b j) (bytes h j))
    (λ b h j. rw (picture_keeps_register h (named c) b j) (bytes h j)) p

-- a port write changes no bit that is not writable at that moment
pub write_keeps_bit : (c : Chip) (p v k : ℕ) (h : Group) (j : ℕ) → k < 8 → bit k (writable_at h (named c) j) ≡ 0
    → bit k (register h (named (port_written c p v).chip) j) ≡ bit k (register h (named c) j)
write_keeps_bit c p v k h j hk shut =
    named-written (λ n. bit k (register h n j) ≡ bit k (register h (named c) j)) c v refl
    (λ g. received_keeps_bit k g h (named c) (index_of g c.indexes) v j hk shut)
    (λ e r g b. ap (bit k) (coloured_keeps_register h (named c) e r g b j))
    (λ b. ap (bit k) (picture_keeps_register h (named c) b j)) p

only_bit_4 : (k : ℕ) → k < 8 → (k ≡ 4 → ⊥) → bit k 0x10 ≡ 0
unfolding every
only_bit_4 k hk other =
    let each : (eqb k 4 || eqb (bit k 0x10) 0) ≡ true = every-at (λ j. eqb j 4 || eqb (bit j 0x10) 0) 0 8 refl k (omega arith) (omega arith) in
    eqb-true _ _ (rw (ne_eqb k 4 other) at each)

-- with CR11 bit 7 set no port write changes CR00 to CR06, and none changes CR07 but in bit 4
module _ (c : Chip) (p v : ℕ) (lock : locked Cr (named c) ≡ true) where
  pub cr00_to_cr06_protected : (i k : ℕ) → i < 0x07 → k < 8
      → bit k (register Cr (named (port_written c p v).chip) i) ≡ bit k (register Cr (named c) i)
  cr00_to_cr06_protected i k hi hk = write_keeps_bit c p v k Cr i hk (rw (lock, cr00_to_cr06_locked i hi) (zero_bit k))

  pub cr07_protected : (k : ℕ) → k < 8 → (k ≡ 4 → ⊥) → bit k (register Cr (named (port_written c p v).chip) 0x07) ≡ bit k (register Cr (named c) 0x07)
  cr07_protected k hk other = write_keeps_bit c p v k Cr 0x07 hk (rw (lock, cr07_bit_4_open) (only_bit_4 k hk other))

-- with a picture no port write changes AR00 to AR0F
pub ar00_to_ar0_f_protected : (c : Chip) (p v : ℕ) → c.picture ≡ true → (i k : ℕ) → i < 0x10 → k < 8
    → bit k (register Ar (named (port_written c p v).chip) i) ≡ bit k (register Ar (named c) i)
unfolding locked locked_by
ar00_to_ar0_f_protected c p v lit i k hi hk = write_keeps_bit c p v k Ar i hk (rw (lit, ar00_to_ar0_f_locked i hi) (zero_bit k))
