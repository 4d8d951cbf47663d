-- The picture, the index and then the turn.
use Rattle.chip.proofs.ViewLaws.{picture_shown}
use Rattle.chip.proofs.Chip.aim_attribute.Goals as goal

pub returns : goal.returns
returns c = rw (c.with_turn.ensures, c.with_index.ensures, picture_shown _ _)
