-- What a write makes of a register's byte. Document 01, "Registers": a data write changes the writable bits only, and CR11 bit
-- 7 = 1 stops writes to CR00 to CR07, but CR07 bit 4 can always be written. Chapter 12 of the databook, with document 02, P1:
-- bit 5 of the attribute index, which says that there is a picture, stops writes to AR00 to AR0F. That bit for bit this is so
-- is the law `bit-written`, in WriteLaws.
use Rattle.std.specs.Prelude.{ℕ, ◌-◌, Bool, false, cond, eqb, ltb}
use Rattle.std.specs.Int.Bits.{bit_and, bit_or}
use Rattle.lists.specs.Bits.{is_set}
use Rattle.chip_registers.specs.Groups.{writable_of}
use Rattle.chip_registers.specs.declared.Group.{Group}
use Rattle.chip_registers.specs.declared.Group.TheVariants.{Cr, Sr, Gr, Xr, Fr, Mr, Msr, Palmask, Ar}

-- whether a group's lock is on, by the byte of CR11 and by bit 5 of the attribute index: bit 7 of CR11 locks CR, the picture
-- locks AR, and no other group has a lock
unfoldable pub locked_by : Group → ℕ → Bool → Bool
locked_by Cr cr11 picture = is_set 7 cr11
locked_by Sr cr11 picture = false
locked_by Gr cr11 picture = false
locked_by Xr cr11 picture = false
locked_by Fr cr11 picture = false
locked_by Mr cr11 picture = false
locked_by Msr cr11 picture = false
locked_by Palmask cr11 picture = false
locked_by Ar cr11 picture = picture

-- what a group's lock leaves open of a register
unfoldable pub left_open : Group → ℕ → ℕ
left_open Cr i = cond (ltb i 0x07) 0x00 (cond (eqb i 0x07) 0x10 0xFF)
left_open Sr i = 0xFF
left_open Gr i = 0xFF
left_open Xr i = 0xFF
left_open Fr i = 0xFF
left_open Mr i = 0xFF
left_open Msr i = 0xFF
left_open Palmask i = 0xFF
left_open Ar i = cond (ltb i 0x10) 0x00 0xFF

-- the bits of a mask that the group's lock, on or off, leaves
abbrev pub under_lock : Group → Bool → ℕ → ℕ → ℕ
under_lock g locked i mask = cond locked (bit_and mask (left_open g i)) mask

-- the bits that a write can change while the group's lock is on or off
unfoldable pub writable_now : Group → Bool → ℕ → ℕ
writable_now g locked i = under_lock g locked i (writable_of g i)

-- the byte after a write: the mask's bits are those of `new`, the others those of `old`
unfoldable pub written : ℕ → ℕ → ℕ → ℕ
written old new mask = bit_or (bit_and old (0xFF - mask)) (bit_and new mask)
