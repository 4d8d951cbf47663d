-- What a reset leaves: each register its reset byte, at all 256 indexes; the pins in XR08, XR70 and XR71; 00h at an unlisted
-- index; and a byte in each. A group's bank is one list of its reset bytes, and the rest follows from that. Of the
-- palette nothing survives: every entry is 0, and so are its index and the held bytes.
use Rattle.std.proofs.Common.{◌≡◌, ℕ, ◌<◌, ◌≤◌, Bool, true, false, cond, eqb, List, [], ◌∷◌, get_or, sym, refl, ap, ◌∙◌, arith, eqb-true}
use lib.ListN.{get_or-replicate}
use lib.Bits.{bit_and, bit_or, and_le_l, or_lt}
use Rattle.lists.specs.Tab.{tab}
use Rattle.lists.proofs.Tab.{tab-at, tab-bytes}
use Rattle.chip_registers.specs.Extension.{xr_lines}
use Rattle.chip_registers.specs.Groups.{is, row_of, reset_of}
use Rattle.chip_registers.proofs.TableLaws.{byte-rows, is_same}
use Rattle.chip_registers.specs.declared.Group.{Group}
use Rattle.chip_registers.specs.declared.Group.TheVariants.{Cr, Sr, Gr, Xr, Fr, Mr, Msr, Palmask, Ar}
use Rattle.chip.specs.State.{named, index_byte}
use Rattle.chip.specs.Names.{register}
use Rattle.chip.specs.Palette.{rgb, entry}
use Rattle.chip.specs.Reset.{reset_byte, reset}
use Rattle.chip.proofs.Banks.{bank, place, room, place-room, register-bank}
use Rattle.chip.proofs.NameLaws.{Bytes}
use Rattle.std.specs.Prelude.{Option, Some, None}
use Rattle.chip_registers.specs.declared.Row.{Row}
use Rattle.chip_registers.specs.Rows.{listed}

-- a group's bank after a reset
tab-one : (f : ℕ → ℕ) → ◌≡◌ {A = List ℕ} (f 0 ∷ []) (tab f 1)
unfolding tab
tab-one f = refl

pub bank-reset : (first second : ℕ) (g : Group) → bank g (named (reset first second)) ≡ tab (reset_byte first second g) (room g)
unfolding reset
bank-reset p q Cr = refl
bank-reset p q Sr = refl
bank-reset p q Gr = refl
bank-reset p q Xr = refl
bank-reset p q Fr = refl
bank-reset p q Mr = refl
bank-reset p q Msr = tab-one (reset_byte p q Msr)
bank-reset p q Palmask = tab-one (reset_byte p q Palmask)
bank-reset p q Ar = refl

-- MSR and PALMASK have one row, whatever the index
reset-place : (p q : ℕ) (g : Group) (i : ℕ) → reset_byte p q g (place g i) ≡ reset_byte p q g i
unfolding reset_byte row_of
reset-place p q Cr i = refl
reset-place p q Sr i = refl
reset-place p q Gr i = refl
reset-place p q Xr i = refl
reset-place p q Fr i = refl
reset-place p q Mr i = refl
reset-place p q Msr i = refl
reset-place p q Palmask i = refl
reset-place p q Ar i = refl

-- a register after a reset
register-tab : (p q : ℕ) (g : Group) (i : ℕ) → register g (named (reset p q)) i ≡ get_or (tab (reset_byte p q g) (room g)) (place g i) 0
register-tab p q g i = register-bank g (named (reset p q)) i ∙ ap (λ (l : List ℕ). get_or l (place g i) 0) (bank-reset p q g)

pub register-reset : (first second : ℕ) (g : Group) (i : ℕ) → i < 0x100 → register g (named (reset first second)) i ≡ reset_byte first second g i
register-reset p q g i h =
    register-tab p q g i ∙ tab-at (reset_byte p q g) (room g) (place g i) 0 (place-room g i h) ∙ reset-place p q g i

-- the registers that show the pins
pub xr_pins_reset : (first second : ℕ)
    → (reset_byte first second Xr 0x08 ≡ bit_and first 0x02) × (reset_byte first second Xr 0x70 ≡ bit_or first 0x01) × (reset_byte first second Xr 0x71 ≡ second)
unfolding reset_byte
xr_pins_reset first second = (refl, refl, refl)

-- no other group shows them
pub reset-pinless : (first second : ℕ) (g : Group) (i : ℕ) → (g ≡ Xr → ⊥) → reset_of g i ≡ reset_byte first second g i
unfolding reset_byte
reset-pinless first second g i other = go (is g Xr) refl
  where
    go : (z : Bool) → is g Xr ≡ z
        → reset_of g i ≡ cond z (cond (eqb i 0x08) (bit_and first 0x02) (cond (eqb i 0x70) (bit_or first 0x01) (cond (eqb i 0x71) second (reset_of g i)))) (reset_of g i)
    go true e = absurd (other (is_same g Xr e))
    go false e = refl

-- 00h at an unlisted index
xr_pins_listed : (i : ℕ) → row_of Xr i ≡ None → (eqb i 0x08 ≡ false) × (eqb i 0x70 ≡ false) × (eqb i 0x71 ≡ false)
unfolding row_of xr_lines
xr_pins_listed i none = (go 0x08 refl _ refl, go 0x70 refl _ refl, go 0x71 refl _ refl)
  where
    listed : Option Row → Bool
    listed (Some row) = true
    listed None = false

    go : (k : ℕ) → listed (row_of Xr k) ≡ true → (z : Bool) → eqb i k ≡ z → eqb i k ≡ false
    go k has true e = cc (sym has ∙ ap (λ (x : ℕ). listed (row_of Xr x)) (sym (eqb-true i k e)) ∙ ap listed none)
    go k has false e = e

pub reset_unlisted : (first second : ℕ) (g : Group) (i : ℕ) → row_of g i ≡ None → reset_byte first second g i ≡ 0x00
unfolding reset_byte
reset_unlisted first second g i none = go (is g Xr) refl
  where
    go : (z : Bool) → is g Xr ≡ z
        → cond z (cond (eqb i 0x08) (bit_and first 0x02) (cond (eqb i 0x70) (bit_or first 0x01) (cond (eqb i 0x71) second (reset_of g i)))) (reset_of g i) ≡ 0x00
    go true e = let (a, b, d) = xr_pins_listed i (rw (is_same g Xr e) at none) in rw (a, b, d, none)
    go false e = rw none

-- a byte in every register
reset_byte_byte : (first second : ℕ) → first < 0x100 → second < 0x100 → (g : Group) (i : ℕ) → reset_byte first second g i < 0x100
unfolding reset_byte
reset_byte_byte first second hp hq g i = go (is g Xr) (eqb i 0x08) (eqb i 0x70) (eqb i 0x71)
  where
    go : (x a b d : Bool)
        → cond x (cond a (bit_and first 0x02) (cond b (bit_or first 0x01) (cond d second (reset_of g i)))) (reset_of g i) < 0x100
    go true true b d = let h : bit_and first 0x02 ≤ first = and_le_l first 0x02 in omega arith
    go true false true d = or_lt 8 first 0x01 hp (omega arith)
    go true false false true = hq
    go true false false false = (byte-rows g i).1
    go false a b d = (byte-rows g i).1

pub reset-bytes : (first second : ℕ) → first < 0x100 → second < 0x100 → Bytes (named (reset first second))
reset-bytes p q hp hq g i = rw (register-tab p q g i) (tab-bytes (reset_byte p q g) (reset_byte_byte p q hp hq g) (room g) (place g i))

-- the palette: no entry survives, and nothing of a colour half loaded
pub entries_reset : (first second e : ℕ) → e < 0x100 → entry (named (reset first second)) e ≡ rgb 0 0 0
unfolding reset
entries_reset first second e h = get_or-replicate 256 e (rgb 0 0 0) (rgb 0 0 0) h

pub loading_reset : (first second : ℕ)
    → ((reset first second).loading.index ≡ 0) × ((reset first second).loading.position ≡ 0)
    × ((reset first second).loading.red ≡ 0) × ((reset first second).loading.green ≡ 0)
unfolding reset
loading_reset first second = (refl, refl, refl, refl)

-- the indexes are 0, there is no picture, and the turn of 3C0h is the index's
pub indexes-reset : (first second : ℕ) (g : Group) → index_byte g (reset first second).indexes ≡ 0x00
unfolding reset
indexes-reset first second Cr = refl
indexes-reset first second Sr = refl
indexes-reset first second Gr = refl
indexes-reset first second Xr = refl
indexes-reset first second Fr = refl
indexes-reset first second Mr = refl
indexes-reset first second Msr = refl
indexes-reset first second Palmask = refl
indexes-reset first second Ar = refl

pub turn_reset : (first second : ℕ) → ((reset first second).indexes.turn ≡ false) × ((reset first second).picture ≡ false)
unfolding reset
turn_reset first second = (refl, refl)
