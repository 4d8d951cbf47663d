-- What is kept of the state, and the state that it shows. Document 02, P7: only listed registers are kept, in one row in the
-- order of the tables (`slot_of` of crate `chip_registers` says where each stands). The arrangement of which every definition
-- speaks has a table of 256 for each group: `view` fills each from the row, with 00h where an index is not listed. A kept state
-- and a state match when the one shows the other. What is shown decides what is kept (law `view_decides`), and every state that
-- accesses reach is shown (law `reached-shown`): proofs/ViewLaws and KeptLaws. Every contract of this crate says what is shown
-- afterwards by what was shown before: from matching states to matching states.
use Rattle.std.specs.Prelude.{◌≡◌, ℕ, true, List, Option, Some, None, length, slice_index}
use Rattle.lists.specs.Tab.{tab}
use Rattle.chip_registers.specs.Groups.{is_indexed}
use Rattle.chip_registers.specs.Row.{Slot, At, Nowhere, slot_of, row_size}
use Rattle.chip_registers.specs.declared.Group.{Group}
use Rattle.chip_registers.specs.declared.Group.TheVariants.{Cr, Sr, Gr, Xr, Fr, Mr, Ar}
use Rattle.chip.specs.State.{Chip}
use Rattle.chip.specs.Access.{Wrote, Seen, wrote, seen}
use Rattle.chip.specs.Reset.{reset_byte}
use Rattle.chip.specs.declared.Chip.{Chip as Kept}
use Rattle.chip.specs.declared.access.Wrote.{Wrote as KeptWrote}
use Rattle.chip.specs.declared.access.Seen.{Seen as KeptSeen}

-- the byte at a place of a row; 00h where there is no place
abbrev pub in_row : List ℕ → Slot → ℕ
in_row r (At k) = slice_index r k
in_row r Nowhere = 0x00

-- a group's table of 256, filled from the row
abbrev pub table_from : List ℕ → Group → List ℕ
table_from r g = tab (λ i. in_row r (slot_of g i)) 256

-- a row as a reset leaves it: each table that is filled from it has the bytes of the reset
abbrev pub Filled : ℕ → ℕ → List ℕ → Type 0
Filled first second r = (g : Group) → is_indexed g ≡ true → table_from r g ≡ tab (reset_byte first second g) 256

-- the state that is shown
unfoldable pub view : Kept → Chip
view k = record {
  cr = table_from k.row Cr;
  sr = table_from k.row Sr;
  gr = table_from k.row Gr;
  xr = table_from k.row Xr;
  fr = table_from k.row Fr;
  mr = table_from k.row Mr;
  ar = table_from k.row Ar;
  msr = k.msr;
  palmask = k.palmask;
  picture = k.picture;
  palette = k.palette;
  indexes = k.indexes;
  loading = k.loading;
}

-- what an access hands back, as it is shown
abbrev pub view_wrote : KeptWrote → Wrote
view_wrote w = wrote w.answer w.before w.after (view w.chip)

abbrev pub view_seen : KeptSeen → Seen
view_seen s = seen s.answer s.value (view s.chip)

-- a register's place in the row, as the code answers it
abbrev pub place_at : Slot → Option ℕ
place_at (At k) = Some k
place_at Nowhere = None

-- matching states: the row has its 275 bytes, and the one shows the other
pub record Shows (k : Kept) (c : Chip) : Type 0 where
  pub size : length k.row ≡ row_size
  pub chip : view k ≡ c
