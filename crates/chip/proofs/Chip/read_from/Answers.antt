-- One line a target: what the callee found there.
use Rattle.chip.proofs.ViewLaws.{loading_shown}
use Rattle.chip.proofs.Chip.read_from.Goals as goal

pub returns-in-WriteIndex : goal.returns-in-WriteIndex
returns-in-WriteIndex c = rw (c.in-WriteIndex.is, c.gives-in-WriteIndex.ensures, loading_shown _)

pub returns-in-Paldata : goal.returns-in-Paldata
returns-in-Paldata c = rw (c.in-Paldata.is, c.gives-in-Paldata.ensures, c.with_loading.ensures, c.move_on.ensures, c.paldata.ensures, loading_shown _)
