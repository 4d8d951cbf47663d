-- Chapter 10 of the databook, sequencer registers: the 6 that its list has, in the order of their indexes.
-- A row is index, title, writable bits, reset byte.
-- docs/DATABOOK.md names the rows that could be read otherwise.
use Rattle.std.specs.Prelude.{List, [], ◌∷◌}
use Rattle.chip_registers.specs.Rows.{Register, reg}

unfoldable pub sr_lines : List Register
sr_lines =
    reg 0x00 "Reset" 0x03 0x00
    ∷ reg 0x01 "Clocking Mode" 0x3D 0x00
    ∷ reg 0x02 "Plane Mask" 0x0F 0x00
    ∷ reg 0x03 "Character Map Select" 0x3F 0x00
    ∷ reg 0x04 "Memory Mode" 0x0E 0x00
    ∷ reg 0x07 "Horizontal Character Counter Reset" 0xFF 0x00
    ∷ []
