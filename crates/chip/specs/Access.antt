-- What a port write and a port read do, and the number that each is given. Document 01, "Ports" and "Numbers returned", 0 to 2:
-- the ports are closed (2) before a port is not listed (1), and a refusal hands back the whole state unchanged. A port that MSR
-- bit 0 does not pick answers 0, reads FFh and writes nothing (HOUSE of the CR pair; document 02, P1, of the status port). The
-- ports of the attribute registers are document 02's, P1. What a write hands back of the register's byte is document 02's, P6.
use Rattle.std.specs.Prelude.{ℕ, Bool, true, false, cond, Result, Ok, Err}
use Rattle.chip_registers.specs.declared.Group.{Group}
use Rattle.chip_registers.specs.declared.Group.TheVariants.{Ar}
use Rattle.chip_ports.specs.Ports.{target, is_listed}
use Rattle.chip_ports.specs.declared.Target.{Target}
use Rattle.chip_ports.specs.declared.Target.TheVariants.{Index, Data, ReadIndex, WriteIndex, Paldata, Attribute, Status, NotPicked, NotListed}
use Rattle.chip.specs.State.{Chip, named, join, with_named, with_indexes, with_loading, index_of, with_index}
use Rattle.chip.specs.Names.{read_byte, received, ports_open, picks3_dx}
use Rattle.chip.specs.Palette.{aimed, held, moved, loaded, palstate, paldata}
use Rattle.chip.specs.Attribute.{attribute_index, attribute_aimed, attribute_set, turn_returned}
use Rattle.chip.specs.declared.access.AccessError.{AccessError}
use Rattle.chip.specs.declared.access.AccessError.TheVariants.{Unlisted, Closed}

-- document 01's number of an answer
abbrev pub answer_number : Result (Unit {0}) AccessError → ℕ
answer_number (Ok tt) = 0
answer_number (Err Unlisted) = 1
answer_number (Err Closed) = 2

-- what a port write hands back, with the register's byte before and after it; and a port read
pub record Wrote : Type 0 where
  pub answer : Result (Unit {0}) AccessError
  pub before : ℕ
  pub after : ℕ
  pub chip : Chip

pub record Seen : Type 0 where
  pub answer : Result (Unit {0}) AccessError
  pub value : ℕ
  pub chip : Chip

abbrev pub wrote : Result (Unit {0}) AccessError → ℕ → ℕ → Chip → Wrote
wrote a b f c = record { answer = a; before = b; after = f; chip = c }

-- document 02, P6: a write that is refused or is of no register's data hands back FFh twice
abbrev pub untold : Result (Unit {0}) AccessError → Chip → Wrote
untold a c = wrote a 0xFF 0xFF c

-- a data write hands back the register's byte before and after it, as it reads: in the state before, and in the state that it
-- leaves
abbrev pub told : Group → ℕ → Chip → Chip → Wrote
told g i c d = wrote (Ok tt) (read_byte g (named c) i) (read_byte g (named d) i) d

abbrev pub seen : Result (Unit {0}) AccessError → ℕ → Chip → Seen
seen a v c = record { answer = a; value = v; chip = c }

-- a byte is written to 3C0h: to the register at the attribute index, or of the index itself
abbrev pub attribute_wrote : Chip → ℕ → Wrote
attribute_wrote c v =
    cond c.indexes.turn (told Ar (index_of Ar c.indexes) c (attribute_set c v)) (untold (Ok tt) (attribute_aimed c v))

-- a byte is written where a port leads: a data port works on the register at the group's index. Input status 1 is not listed for
-- writing (document 02, P1: "in the directions named")
abbrev pub write_to : Target → Chip → ℕ → Wrote
write_to (Index g) c v = untold (Ok tt) (with_indexes c (with_index g c.indexes v))
write_to (Data g) c v =
    told g (index_of g c.indexes) c (with_named c (received g (named c) (index_of g c.indexes) v))
write_to ReadIndex c v = untold (Ok tt) (with_loading c (aimed c.loading v true))
write_to WriteIndex c v = untold (Ok tt) (with_loading c (aimed c.loading v false))
write_to Paldata c v = untold (Ok tt) (join (loaded (named c) c.loading v) c.indexes (moved (held c.loading v)))
write_to Attribute c v = attribute_wrote c v
write_to Status c v = untold (Err Unlisted) c
write_to NotPicked c v = untold (Ok tt) c
write_to NotListed c v = untold (Err Unlisted) c

-- a byte is read from where a port leads. What input status 1 shows comes from parts that are not here: it reads 00h (HOUSE)
abbrev pub read_from : Target → Chip → Seen
read_from (Index g) c = seen (Ok tt) (index_of g c.indexes) c
read_from (Data g) c = seen (Ok tt) (read_byte g (named c) (index_of g c.indexes)) c
read_from ReadIndex c = seen (Ok tt) (palstate c.loading) c
read_from WriteIndex c = seen (Ok tt) c.loading.index c
read_from Paldata c = seen (Ok tt) (paldata (named c) c.loading) (with_loading c (moved c.loading))
read_from Attribute c = seen (Ok tt) (attribute_index c) c
read_from Status c = seen (Ok tt) 0x00 (turn_returned c)
read_from NotPicked c = seen (Ok tt) 0xFF c
read_from NotListed c = seen (Err Unlisted) 0xFF c

-- the number that a port write (true) or read (false) is given: 2 while the ports are closed, else 1 if the port or its
-- direction is not listed, else 0. That the answers below have it, and each exactly then, is in proofs/NumberLaws
unfoldable pub access_table : Bool → Chip → ℕ → ℕ
access_table write c p = cond (ports_open (named c)) (cond (is_listed (target (picks3_dx (named c)) write p)) 0 1) 2

-- a port write and a port read
unfoldable pub port_written : Chip → ℕ → ℕ → Wrote
port_written c p v = cond (ports_open (named c)) (write_to (target (picks3_dx (named c)) true p) c v) (untold (Err Closed) c)

unfoldable pub port_read : Chip → ℕ → Seen
port_read c p = cond (ports_open (named c)) (read_from (target (picks3_dx (named c)) false p) c) (seen (Err Closed) 0xFF c)
