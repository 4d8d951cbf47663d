-- What a reset answers, and what it does on its way: every byte 0, then each register its reset byte where it stands.
use Rattle.std.specs.Prelude.{ℕ, ◌/◌, ◌%◌, ◌<◌, ◌≡◌, cond, List, eqb, get_or, length, set, Result, Ok, Err}
use Rattle.chip_registers.specs.declared.Group.{Group}
use Rattle.chip_masks.specs.Table.{standing_of}
use Rattle.lent_chip.specs.Layout.{whole, place_of}
use Rattle.lent_chip.specs.Accesses.{is_state}
use Rattle.lent_chip.specs.declared.access.StateError.{StateError}
use Rattle.lent_chip.specs.declared.access.StateError.TheVariants.{Length}

-- a state whose bytes are all 0
pub record Cleared (l : List ℕ) : Type 0 where
  pub size : length l ≡ whole
  pub zeros : (k : ℕ) → k < whole → get_or l k 0 ≡ 0

-- the bytes with a register's byte stored where it stands; an unlisted index stands nowhere
abbrev pub stored : List ℕ → Group → ℕ → ℕ → List ℕ
stored l g i v = cond (eqb (standing_of g i / 128 % 2) 1) (set l (place_of g i) v) l

abbrev pub reset_answer : List ℕ → Result (Unit {0}) StateError
reset_answer l = cond (is_state l) (Ok tt) (Err Length)
