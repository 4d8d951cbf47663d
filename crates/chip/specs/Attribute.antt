-- Port 3C0h, which takes the attribute index and the attribute data by turns. Document 02, P1, and chapter 12 of the databook: a
-- write is of the index when the turn is the index's, and then of data, and each write passes the turn. The index keeps six bits:
-- the low five name a register, and bit 5 says that there is a picture, which is kept among what has a name. Bits 6 and 7 read 0.
-- Reading input status 1 returns the turn to the index; reading 3C0h or 3C1h leaves it. XR09 does nothing here.
use Rattle.std.specs.Prelude.{ℕ, ◌+◌, true, false, cond}
use Rattle.lists.specs.Bits.{is_set}
use Rattle.chip_registers.specs.declared.Group.TheVariants.{Ar}
use Rattle.chip.specs.State.{Chip, named, join, with_indexes, with_picture, with_turn, index_of, with_index}
use Rattle.chip.specs.Names.{received}

-- the attribute index as 3C0h reads it
abbrev pub attribute_index : Chip → ℕ
attribute_index c = index_of Ar c.indexes + cond c.picture 0x20 0x00

-- the index is written, and data comes next
abbrev pub attribute_aimed : Chip → ℕ → Chip
attribute_aimed c v = join (with_picture (named c) (is_set 5 v)) (with_turn (with_index Ar c.indexes v) true) c.loading

-- the register at the index receives a byte, and an index comes next
abbrev pub attribute_set : Chip → ℕ → Chip
attribute_set c v = join (received Ar (named c) (index_of Ar c.indexes) v) (with_turn c.indexes false) c.loading

-- input status 1 is read
abbrev pub turn_returned : Chip → Chip
turn_returned c = with_indexes c (with_turn c.indexes false)
