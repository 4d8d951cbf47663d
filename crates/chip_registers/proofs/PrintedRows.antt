-- The twenty rows that document 01 itself prints ("Registers"), in its order, beside the chapters' tables: one test, computed.
use Prim.Native.Nat.{ℕ}
use mathlib.Core.Bool.{Bool, true, ◌&&◌}
use mathlib.Core.Path.{◌≡◌, refl}
use mathlib.Core.List.{List, [], ◌∷◌}
use lib.Dec.{eqb}
use Rattle.chip_registers.specs.CrtController.{cr_lines}
use Rattle.chip_registers.specs.Extension.{xr_lines}
use Rattle.chip_registers.specs.Multimedia.{mr_lines}
use Rattle.chip_registers.specs.Groups.{row_of, writable_of}
use Rattle.chip_registers.specs.declared.Group.{Group}
use Rattle.chip_registers.specs.declared.Group.TheVariants.{Cr, Xr, Mr}

-- a row of the print: a register and its writable bits
pub record Printed : Type 0 where
  pub group : Group
  pub index : ℕ
  pub writable : ℕ

abbrev pub row : Group → ℕ → ℕ → Printed
row g i w = record { group = g; index = i; writable = w }

abbrev pub printed : List Printed
printed =
    row Cr 0x11 0xBF
    ∷ row Cr 0x14 0x7F
    ∷ row Xr 0x60 0x43
    ∷ row Xr 0x61 0x7F
    ∷ row Xr 0x62 0x9C
    ∷ row Xr 0x63 0x9F
    ∷ row Xr 0x67 0x02
    ∷ row Xr 0x70 0x00
    ∷ row Xr 0x71 0x00
    ∷ row Xr 0x80 0xBF
    ∷ row Mr 0x05 0xF0
    ∷ row Mr 0x06 0xF8
    ∷ row Mr 0x22 0xF8
    ∷ row Mr 0x08 0x3F
    ∷ row Mr 0x24 0x3F
    ∷ row Mr 0x0F 0x07
    ∷ row Mr 0x11 0x07
    ∷ row Mr 0x1E 0x1F
    ∷ row Mr 0x1F 0xEB
    ∷ row Mr 0x20 0xFC
    ∷ []

abbrev pub as_printed : List Printed → Bool
as_printed [] = true
as_printed (r ∷ rs) = eqb (writable_of r.group r.index) r.writable && as_printed rs

pub printed-rows : as_printed printed ≡ true
unfolding row_of cr_lines xr_lines mr_lines
printed-rows = refl
