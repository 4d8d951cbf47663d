-- The byte is held or stored, then the position moves.
use Rattle.lent_chip.proofs.Words.{then_loaded}
use Rattle.std.proofs.Common.{rules}
use Rattle.lent_chip.proofs.load.Goals as goal

pub returns-then-changed : goal.returns-then-changed
returns-then-changed c = rw c.if-changed.true at (then_loaded c.args.v c.hold-changed.ensures.holds c.hold-changed.ensures.value c.move_on.ensures)

pub returns-else-changed : goal.returns-else-changed
returns-else-changed c = rw c.if-changed.false at (then_loaded c.args.v c.hold-changed.ensures.holds c.hold-changed.ensures.value c.move_on.ensures)
