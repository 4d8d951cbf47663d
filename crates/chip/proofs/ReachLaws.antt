-- What holds in every state that accesses reach from a reset: bits that are not writable keep the value that the reset gave
-- them; so the ports stay open or closed, and XR08 shows CFG1. Registers hold bytes, so what CR11 or the picture protects bit
-- by bit it protects whole. That each register has its place is in SizeLaws, and that an unlisted index reads 00h in KeptLaws.
use Rattle.std.proofs.Common.{◌≡◌, ℕ, ◌<◌, true, eqb, sym, refl, ap, ◌∙◌, arith}
use lib.Bits.{bit_and, or_zero_r, and_mask}
use Rattle.lists.specs.Bits.{bit, is_set}
use Rattle.lists.proofs.Bits.{zero_bit, bit-and, bit-or}
use Rattle.chip_registers.specs.Extension.{xr_lines}
use Rattle.chip_registers.specs.Groups.{row_of, writable_of}
use Rattle.chip_registers.specs.WriteRule.{locked_by}
use Rattle.chip_registers.proofs.WriteLaws.{locked_fewer, same_bits, cr00_to_cr06_locked, ar00_to_ar0_f_locked}
use Rattle.chip_registers.specs.declared.Group.{Group}
use Rattle.chip_registers.specs.declared.Group.TheVariants.{Cr, Xr, Ar}
use Rattle.chip.specs.State.{Chip, Named, named}
use Rattle.chip.specs.Names.{register, locked, writable_at, ports_open}
use Rattle.chip.specs.Access.{port_written}
use Rattle.chip.specs.Reset.{reset_byte}
use Rattle.chip.specs.Reach.{Reach, fresh, wrote, saw}
use Rattle.chip.proofs.AccessLaws.{write_keeps_bit, write_bytes, read_keeps_all}
use Rattle.chip.proofs.NameLaws.{Bytes}
use Rattle.chip.proofs.ResetLaws.{register-reset, reset-bytes, xr_pins_reset}

-- bits that are not writable keep the value of the reset
pub fixed_bits : {first second : ℕ} {c : Chip} → Reach first second c → (g : Group) (i k : ℕ) → i < 0x100 → k < 8 → bit k (writable_of g i) ≡ 0
    → bit k (register g (named c) i) ≡ bit k (reset_byte first second g i)
fixed_bits {first} {second} fresh g i k hi hk shut = ap (bit k) (register-reset first second g i hi)
fixed_bits (wrote {c} port v hv r) g i k hi hk shut =
    write_keeps_bit c port v k g i hk (locked_fewer k g (locked g (named c)) i shut) ∙ fixed_bits r g i k hi hk shut
fixed_bits (saw {c} port r) g i k hi hk shut =
    ap (λ (n : Named). bit k (register g n i)) (read_keeps_all c port).0 ∙ fixed_bits r g i k hi hk shut

-- the rows that show pins have no writable bit
xr_pins_fixed : (writable_of Xr 0x08 ≡ 0x00) × (writable_of Xr 0x70 ≡ 0x00) × (writable_of Xr 0x71 ≡ 0x00)
unfolding row_of xr_lines
xr_pins_fixed = (refl, refl, refl)

one_kept : (b : ℕ) → b < 2 → bit_and b 1 ≡ b
one_kept b h = and_mask b 1 ∙ omega arith

module _ {first second : ℕ} {c : Chip} (r : Reach first second c) where
  -- XR70 bit 1 is pin CFG1 for good: the ports stay open, or closed
  CFG1 : bit 1 (register Xr (named c) 0x70) ≡ bit 1 first
  CFG1 =
      fixed_bits r Xr 0x70 1 (omega arith) (omega arith) (rw xr_pins_fixed.1 refl) ∙ ap (bit 1) (xr_pins_reset first second).1
      ∙ bit-or 1 first 0x01 ∙ or_zero_r (bit 1 first)

  pub ports_stay : ports_open (named c) ≡ is_set 1 first
  unfolding ports_open
  ports_stay = ap (λ (b : ℕ). eqb b 1) CFG1

  -- XR08 bit 1 shows it
  pub xr08_shows_cfg1 : bit 1 (register Xr (named c) 0x08) ≡ bit 1 (register Xr (named c) 0x70)
  xr08_shows_cfg1 =
      fixed_bits r Xr 0x08 1 (omega arith) (omega arith) (rw xr_pins_fixed.0 refl) ∙ ap (bit 1) (xr_pins_reset first second).0
      ∙ bit-and 1 first 0x02 ∙ one_kept (bit 1 first) (omega arith) ∙ sym CFG1

-- every register holds a byte
pub reach_bytes : {first second : ℕ} {c : Chip} → first < 0x100 → second < 0x100 → Reach first second c → Bytes (named c)
reach_bytes {first} {second} hp hq fresh = reset-bytes first second hp hq
reach_bytes hp hq (wrote {c} port v hv r) = write_bytes c port v hv (reach_bytes hp hq r)
reach_bytes hp hq (saw {c} port r) = rw (read_keeps_all c port).0 (reach_bytes hp hq r)

-- a register without a writable bit at this moment stays whole, whatever is written to whatever port
pub shut_stays : {first second : ℕ} {c : Chip} → first < 0x100 → second < 0x100 → Reach first second c → (p v : ℕ) → v < 0x100
    → (g : Group) (i : ℕ) → writable_at g (named c) i ≡ 0x00 → register g (named (port_written c p v).chip) i ≡ register g (named c) i
shut_stays {c = c} hp hq r p v hv g i none =
    same_bits (register g (named (port_written c p v).chip) i) (register g (named c) i) (reach_bytes hp hq (wrote p v hv r) g i) (reach_bytes hp hq r g i)
    (λ k hk. write_keeps_bit c p v k g i hk (rw none (zero_bit k)))

-- so do CR00 to CR06 with CR11 bit 7 set, and AR00 to AR0F with a picture
pub cr00_to_cr06_stay : {first second : ℕ} {c : Chip} → first < 0x100 → second < 0x100 → Reach first second c → locked Cr (named c) ≡ true
    → (p v i : ℕ) → v < 0x100 → i < 0x07 → register Cr (named (port_written c p v).chip) i ≡ register Cr (named c) i
cr00_to_cr06_stay hp hq r lock p v i hv hi = shut_stays hp hq r p v hv Cr i (rw lock (cr00_to_cr06_locked i hi))

pub ar00_to_ar0_f_stay : {first second : ℕ} {c : Chip} → first < 0x100 → second < 0x100 → Reach first second c → c.picture ≡ true
    → (p v i : ℕ) → v < 0x100 → i < 0x10 → register Ar (named (port_written c p v).chip) i ≡ register Ar (named c) i
unfolding locked locked_by
ar00_to_ar0_f_stay hp hq r lit p v i hv hi = shut_stays hp hq r p v hv Ar i (rw lit (ar00_to_ar0_f_locked i hi))
