-- What lent bytes answer by name. Document 01, "Ports" (the groups' numbers), "Registers" and "Palette"; document 02, P1: AR is
-- group 8. Bytes of another length than a state's are refused before anything else, then a number that no group has. Every index
-- is accepted: where none is listed crate `chip`'s `register` is asked too, and MSR and PALMASK are one register each, whatever
-- the index.
use Rattle.std.specs.Prelude.{ℕ, cond, List, ltb, Result, Ok, Err}
use Rattle.chip_registers.specs.Groups.{group_at}
use Rattle.chip.specs.State.{named}
use Rattle.chip.specs.Names.{register}
use Rattle.chip.specs.Palette.{entry, shown}
use Rattle.lent_chip.specs.Layout.{view}
use Rattle.lent_chip.specs.Accesses.{is_state}
use Rattle.lent_names.specs.declared.RegisterError.{RegisterError}
use Rattle.lent_names.specs.declared.RegisterError.TheVariants.{NoGroup, Length as RegisterLength}
use Rattle.lent_chip.specs.declared.access.StateError.{StateError}
use Rattle.lent_chip.specs.declared.access.StateError.TheVariants.{Length}
use Rattle.chip.specs.declared.Rgb.{Rgb}

-- the byte of a register
abbrev pub register_answer : List ℕ → ℕ → ℕ → Result ℕ RegisterError
register_answer l g i = cond (is_state l) (cond (ltb g 9) (Ok (register (group_at g) (named (view l)) i)) (Err NoGroup)) (Err RegisterLength)

-- the colour that an entry stores, and the colour that a pixel shows
abbrev pub entry_answer : List ℕ → ℕ → Result Rgb StateError
entry_answer l e = cond (is_state l) (Ok (entry (named (view l)) e)) (Err Length)

abbrev pub pixel_answer : List ℕ → ℕ → Result Rgb StateError
pixel_answer l p = cond (is_state l) (Ok (shown (named (view l)) p)) (Err Length)
