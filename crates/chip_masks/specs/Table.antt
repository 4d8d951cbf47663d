-- What a line is of the table of writable bits, and of the table of places in the row: the bytes of eight registers of a group,
-- as crate `chip_registers` defines them, in one number.
use Rattle.std.specs.Prelude.{ℕ, zero, suc, ◌+◌, ◌*◌, ◌-◌, cond}
use Rattle.chip_registers.specs.Groups.{is_indexed}
use Rattle.chip_registers.specs.Row.{Slot, At, Nowhere, before, slot_of}
use Rattle.chip_registers.specs.declared.Group.{Group}

-- n bytes as one number, the first at the left
unfoldable pub packed : (ℕ → ℕ) → ℕ → ℕ
packed f zero = 0
packed f (suc n) = packed f n * 256 + f n

-- line k of a group's table of bytes, eight registers a line
unfoldable pub line_of : (Group → ℕ → ℕ) → Group → ℕ → ℕ
line_of f g k = packed (λ j. f g (8 * k + j)) 8

-- a place as a byte: 128 plus how far it is from the group's first, and 0 for none
abbrev pub standing : ℕ → Slot → ℕ
standing first (At k) = 128 + (k - first)
standing first Nowhere = 0

-- where a register stands, as a byte; MSR and PALMASK are the first and only register of their group
unfoldable pub standing_of : Group → ℕ → ℕ
standing_of g i = cond (is_indexed g) (standing (before g) (slot_of g i)) 128
