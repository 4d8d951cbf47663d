-- What a register's row is, and the row that a table has at an index. Document 01, "Registers".
-- The tables themselves stand a chapter a file: CrtController, Sequencer, Graphics, Attribute, Extension, FlatPanel, Multimedia.
use Rattle.std.specs.Prelude.{ℕ, cond, List, [], ◌∷◌, eqb, Option, Some, None}
use Prim.Native.String.{String}
use Rattle.chip_registers.specs.declared.Row.{Row}

-- a register as its chapter lists it: the bits that can be written, and the byte after a reset. "A reset bit that 001 does not
-- give, marks x or takes from a pin is 0 (HOUSE)"; the pins that XR08, XR70 and XR71 show are crate `chip`'s. Bits that steer
-- what is not here are stored and do nothing, and status bits that would come from it read 0 (HOUSE)
pub record Register : Type 0 where
  pub index : ℕ
  pub title : String
  pub writable : ℕ
  pub reset : ℕ

-- a line of a table: index, title, writable bits, reset byte
abbrev pub reg : ℕ → String → ℕ → ℕ → Register
reg i t w r = record { index = i; title = t; writable = w; reset = r }

-- such a register's row
abbrev pub listed : ℕ → ℕ → Row
listed w r = record { 0 = w; 1 = r }

-- the row of a table at an index; an index that the table does not have is unlisted, and does what document 01 says of it (HOUSE)
abbrev pub row_in : List Register → ℕ → Option Row
row_in [] i = None
row_in (r ∷ rs) i = cond (eqb i r.index) (Some (listed r.writable r.reset)) (row_in rs i)
