-- Where a register stands in the row: the listed registers alone, one byte each. Document 02, P7. The row has the tables in the
-- order of `table_at` (CR, SR, GR, XR, FR, MR, AR), each in the order of its indexes. Nothing here is counted by hand: a new line
-- of a table moves what stands behind it. MSR and PALMASK are one register each and stand in no row. That there is one place to
-- one register, with no place left over, are the laws of proofs/RowLaws.
use Rattle.std.specs.Prelude.{ℕ, zero, suc, ◌+◌, ◌*◌, cond, List, [], ◌∷◌, ◌++◌, eqb, length}
use Rattle.chip_registers.specs.Rows.{Register}
use Rattle.chip_registers.specs.CrtController.{cr_lines}
use Rattle.chip_registers.specs.Sequencer.{sr_lines}
use Rattle.chip_registers.specs.Graphics.{gr_lines}
use Rattle.chip_registers.specs.Attribute.{ar_lines}
use Rattle.chip_registers.specs.Extension.{xr_lines}
use Rattle.chip_registers.specs.FlatPanel.{fr_lines}
use Rattle.chip_registers.specs.Multimedia.{mr_lines}
use Rattle.chip_registers.specs.Groups.{number_of, table_at}
use Rattle.chip_registers.specs.declared.Group.{Group}
use Rattle.chip_registers.specs.declared.Group.TheVariants.{Cr, Sr, Gr, Xr, Fr, Mr, Msr, Palmask, Ar}

-- a place among bytes, or none
pub data Slot : Type 0 where
  At : ℕ → Slot
  Nowhere : Slot

-- the lines of a group's table; MSR and PALMASK have no table
unfoldable pub lines_of : Group → List Register
lines_of Cr = cr_lines
lines_of Sr = sr_lines
lines_of Gr = gr_lines
lines_of Xr = xr_lines
lines_of Fr = fr_lines
lines_of Mr = mr_lines
lines_of Msr = []
lines_of Palmask = []
lines_of Ar = ar_lines

-- how many registers the first q tables have
abbrev pub start_of : ℕ → ℕ
start_of zero = 0
start_of (suc q) = start_of q + length (lines_of (table_at q))

-- how many registers stand before a group's in the row
unfoldable pub before : Group → ℕ
before Cr = start_of 0
before Sr = start_of 1
before Gr = start_of 2
before Xr = start_of 3
before Fr = start_of 4
before Mr = start_of 5
before Msr = 0
before Palmask = 0
before Ar = start_of 6

-- how many registers stand in the row; that these are all is the law `row_full`
abbrev pub row_size : ℕ
row_size = 275

-- the place of an index in a table whose first line stands at k
abbrev pub slot_in : List Register → ℕ → ℕ → Slot
slot_in [] i k = Nowhere
slot_in (r ∷ rs) i k = cond (eqb i r.index) (At k) (slot_in rs i (suc k))

-- the place of a register in the row
unfoldable pub slot_of : Group → ℕ → Slot
slot_of g i = slot_in (lines_of g) i (before g)

-- the registers of the row one after the other, each by 256 times the number of its group, plus its index
abbrev numbers_of : ℕ → List Register → List ℕ
numbers_of g [] = []
numbers_of g (r ∷ rs) = (256 * g + r.index) ∷ numbers_of g rs

abbrev group_names : Group → List ℕ
group_names g = numbers_of (number_of g) (lines_of g)

unfoldable pub names : List ℕ
names = group_names Cr ++ group_names Sr ++ group_names Gr ++ group_names Xr ++ group_names Fr ++ group_names Mr ++ group_names Ar
