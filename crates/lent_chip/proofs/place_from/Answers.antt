-- The group's start and the register's place from there.
use Rattle.std.proofs.Common.{arith}
use Rattle.lent_chip.specs.Layout.{place_of}
use Rattle.lent_chip.proofs.Stores.{place_below}
use Rattle.lent_chip.proofs.place_from.Goals as goal

pub returns : goal.returns
unfolding place_of
returns c = (rw (c.base.ensures.0, c.requires), rw (c.base.ensures.0, c.requires) (place_below _ c.args.i (omega arith) (rw c.base.ensures.0 at c.base.ensures.1)))
