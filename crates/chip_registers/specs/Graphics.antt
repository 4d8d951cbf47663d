-- Chapter 11 of the databook, graphics controller registers: the 9 that its list has, in the order of their indexes.
-- A row is index, title, writable bits, reset byte.
-- docs/DATABOOK.md names the rows that could be read otherwise.
use Rattle.std.specs.Prelude.{List, [], ◌∷◌}
use Rattle.chip_registers.specs.Rows.{Register, reg}

unfoldable pub gr_lines : List Register
gr_lines =
    reg 0x00 "Set/Reset" 0x0F 0x00
    ∷ reg 0x01 "Enable Set/Reset" 0x0F 0x00
    ∷ reg 0x02 "Color Compare" 0x0F 0x00
    ∷ reg 0x03 "Data Rotate" 0x1F 0x00
    ∷ reg 0x04 "Read Map Select" 0x03 0x00
    ∷ reg 0x05 "Graphics Mode" 0x7B 0x00
    ∷ reg 0x06 "Miscellaneous" 0x0F 0x00
    ∷ reg 0x07 "Color Don't Care" 0x0F 0x00
    ∷ reg 0x08 "Bit Mask" 0xFF 0x00
    ∷ []
