-- A port access on lent bytes in numbers: document 01's ("Numbers returned"), and 255 for bytes that are no state, which document
-- 01 does not have.
use Rattle.std.specs.Prelude.{ℕ, cond, List}
use Rattle.lists.specs.Numbers.{Returned, returned}
use Rattle.chip.specs.Access.{answer_number, port_written, port_read}
use Rattle.lent_chip.specs.Layout.{view}
use Rattle.lent_chip.specs.Accesses.{is_state, Told, told_of}

-- bytes that are no state
abbrev pub no_state : ℕ
no_state = 255

-- a refused write tells of no register: document 02, P6
abbrev pub untold : ℕ → Told
untold n = record { number = n; changed = 0; before = 0xFF; after = 0xFF }

-- what a write answers, and a read's number with the byte
abbrev pub write_table : List ℕ → ℕ → ℕ → Told
write_table l p v = cond (is_state l) (told_of (view l) (port_written (view l) p v)) (untold no_state)

abbrev pub read_table : List ℕ → ℕ → Returned
read_table l p = cond (is_state l) (returned (answer_number (port_read (view l) p).answer) (port_read (view l) p).value) (returned no_state 0xFF)
