-- Whether a register or a colour differs between two states: document 02, P6, "changed a register or a colour". By name, and by
-- what is stored: the registers of all groups with MSR and PALMASK, and the 256 entries of the palette. Bit 5 of the attribute
-- index, an index, the turn of 3C0h and the palette's loading state are no register and no colour. A write that hands back FFh
-- twice can change a colour, and one that hands back the same byte twice changes nothing: proofs/DifferLaws.
use Rattle.std.specs.Prelude.{ℕ, Bool, cond, not, ◌&&◌, ◌==◌, nat_eq}
use Rattle.lists.specs.Scan.{every}
use Rattle.chip_registers.specs.Groups.{group_at}
use Rattle.chip_registers.specs.declared.Group.{Group}
use Rattle.chip.specs.State.{Chip, Named, named}
use Rattle.chip.specs.Names.{register}
use Rattle.chip.specs.Palette.{entry}
use Rattle.chip.specs.declared.Rgb.{Rgb}

-- the registers of a group; MSR and PALMASK are the same at every index
unfoldable pub same_group : Named → Named → Group → Bool
same_group a b g = every (λ i. nat_eq (register g a i) (register g b i)) 0 256

unfoldable pub same_colour : Rgb → Rgb → Bool
same_colour x y = x.red == y.red && x.green == y.green && x.blue == y.blue

-- the groups are those of the numbers 0 to 8
unfoldable pub same_stored : Named → Named → Bool
same_stored a b = every (λ k. same_group a b (group_at k)) 0 9 && every (λ e. same_colour (entry a e) (entry b e)) 0 256

unfoldable pub differ : Chip → Chip → Bool
differ c d = not (same_stored (named c) (named d))

-- as a count: 1 or 0
abbrev pub changes : Chip → Chip → ℕ
changes c d = cond (differ c d) 1 0
