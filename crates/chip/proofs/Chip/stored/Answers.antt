-- The palette is shown as it is kept.
use Rattle.chip.specs.View.{view}
use Rattle.std.proofs.Common.{rules}
use Rattle.chip.proofs.Chip.stored.Goals as goal

pub returns : goal.returns
unfolding view
returns c = search rules
