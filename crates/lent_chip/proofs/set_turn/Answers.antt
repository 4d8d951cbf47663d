-- One store.
use Rattle.lent_chip.proofs.Holding.{as_it_is, then_turn}
use Rattle.lent_chip.proofs.set_turn.Goals as goal

pub returns : goal.returns
returns c = then_turn c.args.turn (as_it_is c.told-state) c.with_flag.ensures
