-- Reading and writing a register by name: by group and index, whatever any index register holds. Document 01, "Registers",
-- and "Scripts" for the word: a register that receives a byte is written by name, protection included.
-- What layers above may use of this are the laws in proofs/NameLaws, not the tables.
use Rattle.std.specs.Prelude.{ℕ, Bool, cond, slice_index, slice_set}
use Rattle.lists.specs.Bits.{is_set}
use Rattle.chip_registers.specs.Groups.{is}
use Rattle.chip_registers.specs.WriteRule.{locked_by, writable_now, written}
use Rattle.chip_registers.specs.declared.Group.{Group}
use Rattle.chip_registers.specs.declared.Group.TheVariants.{Cr, Sr, Gr, Xr, Fr, Mr, Msr, Palmask, Ar}
use Rattle.chip.specs.State.{Named}

-- the byte of a register: a read shows stored bits
abbrev pub register : Group → Named → ℕ → ℕ
register Cr n i = slice_index n.cr i
register Sr n i = slice_index n.sr i
register Gr n i = slice_index n.gr i
register Xr n i = slice_index n.xr i
register Fr n i = slice_index n.fr i
register Mr n i = slice_index n.mr i
register Msr n i = n.msr
register Palmask n i = n.palmask
register Ar n i = slice_index n.ar i

-- what a register reads as: its stored bits, in every register. A definition that asks what is read says this, one that asks what
-- is stored says `register`
abbrev pub read_byte : Group → Named → ℕ → ℕ
read_byte g n i = register g n i

-- the same with one register's byte replaced
abbrev pub replaced : Group → Named → ℕ → ℕ → Named
replaced g n i b = record {
  cr = cond (is g Cr) (slice_set n.cr i b) n.cr;
  sr = cond (is g Sr) (slice_set n.sr i b) n.sr;
  gr = cond (is g Gr) (slice_set n.gr i b) n.gr;
  xr = cond (is g Xr) (slice_set n.xr i b) n.xr;
  fr = cond (is g Fr) (slice_set n.fr i b) n.fr;
  mr = cond (is g Mr) (slice_set n.mr i b) n.mr;
  ar = cond (is g Ar) (slice_set n.ar i b) n.ar;
  msr = cond (is g Msr) b n.msr;
  palmask = cond (is g Palmask) b n.palmask;
  picture = n.picture;
  palette = n.palette;
}

-- whether a group's registers are under a lock: CR11's protection, and for AR the picture
unfoldable pub locked : Group → Named → Bool
locked g n = locked_by g (register Cr n 0x11) n.picture

-- the bits of a register that a write can change at this moment
abbrev pub writable_at : Group → Named → ℕ → ℕ
writable_at g n i = writable_now g (locked g n) i

-- a register receives a byte
unfoldable pub received : Group → Named → ℕ → ℕ → Named
received g n i v = replaced g n i (written (register g n i) v (writable_at g n i))

-- the ports answer: pin CFG1, XR70 bit 1
unfoldable pub ports_open : Named → Bool
ports_open n = is_set 1 (register Xr n 0x70)

-- MSR bit 0 picks the CR pair: 3D4h and 3D5h if it is 1
unfoldable pub picks3_dx : Named → Bool
picks3_dx n = is_set 0 (register Msr n 0x00)

-- XR80 bit 7 picks the palette's mode: eight-bit if it is 1
unfoldable pub eight_bit : Named → Bool
eight_bit n = is_set 7 (register Xr n 0x80)
