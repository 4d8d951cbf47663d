-- Two stores, then the turn.
use Rattle.lent_chip.proofs.Holding.{as_it_is, then_aimed}
use Rattle.std.proofs.Common.{rules}
use Rattle.lent_chip.proofs.aim_attribute.Goals as goal

pub returns : goal.returns
returns c = then_aimed _ (as_it_is c.told-state) c.index_kept.ensures c.with_flag.ensures c.set_turn.ensures
