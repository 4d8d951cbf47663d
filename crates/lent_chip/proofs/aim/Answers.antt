-- Three stores.
use Rattle.lent_chip.specs.Layout.{POSITION, INDEX}
use Rattle.lent_chip.proofs.Holding.{as_it_is, then_single, then_reading}
use Rattle.std.proofs.Common.{arith}
use Rattle.lent_chip.proofs.aim.Goals as goal

pub returns : goal.returns
returns c = then_reading c.args.reading (then_single POSITION 0 (then_single INDEX c.args.v (as_it_is c.told-state) (omega arith)) (omega arith)) (omega (arith, c.with_flag.ensures))
