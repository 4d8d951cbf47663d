-- A script file played by its short list: translated into a lent buffer, and its commands run whole. What comes back, for every
-- chip, file and buffer. What that means by name is the record of a plain play (`ByName` of crate `chip_play`), of the short
-- translation's answer, and its numbers are those of the same table.
use Rattle.std.specs.Prelude.{ℕ, List}
use Rattle.chip.specs.State.{Chip}
use Rattle.script.specs.File.{step_count}
use Rattle.script_short.specs.Short.{short_to, short_translated}
use Rattle.chip_play.specs.Played.{Performance, after_translation}

unfoldable pub short_played : Chip → List ℕ → ℕ → Performance
short_played c file room = after_translation (short_translated file room) (short_to file (step_count file)) c
