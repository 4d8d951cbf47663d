-- Which registers a lock reaches, and what sets it. Document 01, "Registers": CR11 bit 7 = 1 stops writes to CR00 to CR07;
-- chapter 12 of the databook, with document 02, P1: bit 5 of the attribute index stops writes to AR00 to AR0F. Both reach no
-- other register. What is left of the registers that they reach is in WriteLaws.
use Prim.Native.Nat.{ℕ, ◌<◌, ◌≤◌}
use native.Mathlib.Omega.{arith}
use mathlib.Core.Bool.{Bool, true, false, cond, ◌&&◌}
use mathlib.Core.Path.{◌≡◌, refl, ap, ◌∙◌}
use lib.Dec.{leb, ltb}
use lib.Bits.{bit_and, and_mask}
use borrow.Author.Tests.{ltb-false, leb-true, leb-false, le-ltb, eq-eqb, ne_eqb}
use Rattle.lists.specs.Bits.{bit, is_set}
use Rattle.chip_registers.specs.Groups.{is, writable_of}
use Rattle.chip_registers.specs.WriteRule.{locked_by, left_open, writable_now}
use Rattle.chip_registers.specs.declared.Group.{Group}
use Rattle.chip_registers.specs.declared.Group.TheVariants.{Cr, Sr, Gr, Xr, Fr, Mr, Msr, Palmask, Ar}
use Rattle.chip_registers.proofs.TableLaws.{byte-rows}

-- the registers that a lock reaches
abbrev pub lockable : Group → ℕ → Bool
lockable g i = cond (is g Cr) (ltb i 0x08) (is g Ar && ltb i 0x10)

-- every other register can be written as it can without a lock: CR08 and on, AR10 to AR14, and all of the other groups
whole : (w : ℕ) → w < 0x100 → bit_and w 0xFF ≡ w
whole w h = and_mask w 8 ∙ omega arith

left-whole : (g : Group) (i : ℕ) → lockable g i ≡ false → left_open g i ≡ 0xFF
unfolding left_open
left-whole Cr i h = let past : 0x08 ≤ i = ltb-false i 0x08 h in rw (le-ltb i 0x07 (omega arith), ne_eqb i 0x07 (omega arith))
left-whole Sr i h = refl
left-whole Gr i h = refl
left-whole Xr i h = refl
left-whole Fr i h = refl
left-whole Mr i h = refl
left-whole Msr i h = refl
left-whole Palmask i h = refl
left-whole Ar i h = rw h

pub lock_elsewhere : (g : Group) (locked : Bool) (i : ℕ) → lockable g i ≡ false → writable_now g locked i ≡ writable_of g i
unfolding writable_now
lock_elsewhere g true i h = ap (bit_and (writable_of g i)) (left-whole g i h) ∙ whole (writable_of g i) (byte-rows g i).0
lock_elsewhere g false i h = refl

-- CR is locked by a CR11 of 80h or more, whatever the picture; AR by the picture, whatever CR11; no other group is locked by
-- either
pub cr11_locks_cr : (cr11 : ℕ) (picture : Bool) → cr11 < 0x100 → locked_by Cr cr11 picture ≡ leb 0x80 cr11
unfolding locked_by
cr11_locks_cr cr11 picture h = go (leb 0x80 cr11) refl
  where
    go : (z : Bool) → leb 0x80 cr11 ≡ z → is_set 7 cr11 ≡ z
    go true e = let most = leb-true 0x80 cr11 e in eq-eqb (bit 7 cr11) 1 (omega arith)
    go false e = let less = leb-false 0x80 cr11 e in ne_eqb (bit 7 cr11) 1 (omega arith)

pub picture_locks_ar : (cr11 : ℕ) (picture : Bool) → locked_by Ar cr11 picture ≡ picture
unfolding locked_by
picture_locks_ar cr11 picture = refl

pub others_unlocked : (g : Group) (cr11 : ℕ) (picture : Bool) → is g Cr ≡ false → is g Ar ≡ false → locked_by g cr11 picture ≡ false
unfolding locked_by
others_unlocked Cr cr11 picture p q = cc
others_unlocked Sr cr11 picture p q = refl
others_unlocked Gr cr11 picture p q = refl
others_unlocked Xr cr11 picture p q = refl
others_unlocked Fr cr11 picture p q = refl
others_unlocked Mr cr11 picture p q = refl
others_unlocked Msr cr11 picture p q = refl
others_unlocked Palmask cr11 picture p q = refl
others_unlocked Ar cr11 picture p q = cc
