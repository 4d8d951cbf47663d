-- These answers in numbers: 0, and two that document 01 does not have, 254 for a number that no group has and 255 for bytes that
-- are no state. A register comes as 256 times the number plus the byte, which is FFh where the number is not 0; a colour as a
-- word of four bytes, the number highest, then red, green and blue, which are 0 where the number is not 0.
use Rattle.std.specs.Prelude.{ℕ, ◌+◌, ◌*◌, Result, Ok, Err}
use Rattle.lists.specs.Numbers.{Returned, returned}
use Rattle.lent_chip.specs.Numbers.{no_state}
use Rattle.lent_names.specs.declared.RegisterError.{RegisterError}
use Rattle.lent_names.specs.declared.RegisterError.TheVariants.{NoGroup, Length as RegisterLength}
use Rattle.lent_chip.specs.declared.access.StateError.{StateError}
use Rattle.lent_chip.specs.declared.access.StateError.TheVariants.{Length}
use Rattle.chip.specs.declared.Rgb.{Rgb}

-- a number that no group has
abbrev pub no_group : ℕ
no_group = 254

abbrev pub of_register : Result ℕ RegisterError → Returned
of_register (Ok b) = returned 0 b
of_register (Err NoGroup) = returned no_group 0xFF
of_register (Err RegisterLength) = returned no_state 0xFF

abbrev pub register_word : Result ℕ RegisterError → ℕ
register_word r = 256 * (of_register r).number + (of_register r).value

abbrev pub colour_word : Result Rgb StateError → ℕ
colour_word (Ok c) = 65536 * c.red + 256 * c.green + c.blue
colour_word (Err Length) = 16777216 * no_state
