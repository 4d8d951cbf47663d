-- The groups and the row of each register. Document 01, "Ports" (the numbers of the groups) and "Registers"; AR is document
-- 02's, P1. MSR is chapter 8's, PALMASK chapter 13's: one register each, at whatever index.
use Rattle.std.specs.Prelude.{ℕ, Bool, true, false, cond, eqb, Option, Some, None}
use Rattle.chip_registers.specs.Rows.{row_in, listed}
use Rattle.chip_registers.specs.CrtController.{cr_lines}
use Rattle.chip_registers.specs.Sequencer.{sr_lines}
use Rattle.chip_registers.specs.Graphics.{gr_lines}
use Rattle.chip_registers.specs.Attribute.{ar_lines}
use Rattle.chip_registers.specs.Extension.{xr_lines}
use Rattle.chip_registers.specs.FlatPanel.{fr_lines}
use Rattle.chip_registers.specs.Multimedia.{mr_lines}
use Rattle.chip_registers.specs.declared.Group.{Group}
use Rattle.chip_registers.specs.declared.Group.TheVariants.{Cr, Sr, Gr, Xr, Fr, Mr, Msr, Palmask, Ar}
use Rattle.chip_registers.specs.declared.Row.{Row}

-- the number of a group: document 01's, and 8 for AR
abbrev pub number_of : Group → ℕ
number_of Cr = 0
number_of Sr = 1
number_of Gr = 2
number_of Xr = 3
number_of Fr = 4
number_of Mr = 5
number_of Msr = 6
number_of Palmask = 7
number_of Ar = 8

-- the group of a number, 0 to 8; a number above 8 is no group's
unfoldable pub group_at : ℕ → Group
group_at k =
    cond (eqb k 0) Cr (cond (eqb k 1) Sr (cond (eqb k 2) Gr (cond (eqb k 3) Xr
    (cond (eqb k 4) Fr (cond (eqb k 5) Mr (cond (eqb k 6) Msr (cond (eqb k 7) Palmask Ar)))))))

-- the groups whose registers stand in tables of 256: those that have an index, in the order of their numbers, as tables 0 to 6.
-- A number above 6 is PALMASK's, which is one register at whatever index
unfoldable pub table_at : ℕ → Group
table_at k =
    cond (eqb k 0) Cr (cond (eqb k 1) Sr (cond (eqb k 2) Gr (cond (eqb k 3) Xr
    (cond (eqb k 4) Fr (cond (eqb k 5) Mr (cond (eqb k 6) Ar Palmask))))))

-- whether two groups are the same
abbrev pub is : Group → Group → Bool
is g h = eqb (number_of g) (number_of h)

-- whether a group has an index; MSR and PALMASK are one register each
abbrev pub is_indexed : Group → Bool
is_indexed Cr = true
is_indexed Sr = true
is_indexed Gr = true
is_indexed Xr = true
is_indexed Fr = true
is_indexed Mr = true
is_indexed Msr = false
is_indexed Palmask = false
is_indexed Ar = true

unfoldable pub row_of : Group → ℕ → Option Row
row_of Cr i = row_in cr_lines i
row_of Sr i = row_in sr_lines i
row_of Gr i = row_in gr_lines i
row_of Xr i = row_in xr_lines i
row_of Fr i = row_in fr_lines i
row_of Mr i = row_in mr_lines i
row_of Msr i = Some (listed 0xEF 0x00)
row_of Palmask i = Some (listed 0xFF 0x00)
row_of Ar i = row_in ar_lines i

-- "An unlisted index ignores writes and reads 00h (HOUSE)."
abbrev pub writable_in : Option Row → ℕ
writable_in (Some row) = row.0
writable_in None = 0x00

abbrev pub reset_in : Option Row → ℕ
reset_in (Some row) = row.1
reset_in None = 0x00

-- the bits that a write can change, a lock apart
abbrev pub writable_of : Group → ℕ → ℕ
writable_of g i = writable_in (row_of g i)

-- the byte that a reset leaves, the pins apart
abbrev pub reset_of : Group → ℕ → ℕ
reset_of g i = reset_in (row_of g i)
