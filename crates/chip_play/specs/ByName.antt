-- What steps say by name: each applied to the registers and colours by the named access of crate `chip` alone. There is no index
-- register and no port here. Document 01, "Scripts": SET, FIELD and COLOUR, protection and palette mode included; document 02,
-- P1: what the picture does to AR00 to AR0F holds by name too.
use Rattle.std.specs.Prelude.{ℕ, ◌+◌, ◌-◌, cond, List, [], ◌∷◌}
use Rattle.std.specs.Int.Bits.{bit_and, bit_or}
use Rattle.chip_registers.specs.Groups.{group_at}
use Rattle.chip.specs.State.{Named}
use Rattle.chip.specs.Names.{read_byte, received}
use Rattle.chip.specs.Palette.{coloured}
use Rattle.chip.specs.Differ.{same_stored}
use Rattle.script_steps.specs.declared.Step.{Step}
use Rattle.script_steps.specs.declared.Step.TheVariants.{Set, Field, Colour}

-- "The register receives what it reads, with the mask's bits replaced."
abbrev pub replaced_bits : ℕ → ℕ → ℕ → ℕ
replaced_bits old mask value = bit_or (bit_and old (0xFF - mask)) value

-- what a step says
unfoldable pub applied : Step → Named → Named
applied (Set group index value) n = received (group_at group) n index value
applied (Field group index value mask) n =
    received (group_at group) n index (replaced_bits (read_byte (group_at group) n index) mask value)
applied (Colour entry red green blue) n = coloured n entry red green blue

-- what steps say, one after the other
unfoldable pub applied_all : List Step → Named → Named
applied_all [] n = n
applied_all (s ∷ ss) n = applied_all ss (applied s n)

-- document 02, P6: how many of the steps change a register or a colour, by name
unfoldable pub steps_changing : List Step → Named → ℕ
steps_changing [] n = 0
steps_changing (s ∷ ss) n = cond (same_stored n (applied s n)) 0 1 + steps_changing ss (applied s n)
