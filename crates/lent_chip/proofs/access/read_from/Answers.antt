-- One line a target: what the callee found there.
use Rattle.std.proofs.Common.{sym, refl, ◌∙◌, rules}
use Rattle.lent_chip.proofs.Holding.{as_it_is, index-byte}
use Rattle.lent_chip.proofs.access.read_from.Goals as goal

pub returns-in-WriteIndex : goal.returns-in-WriteIndex
returns-in-WriteIndex c = rw c.in-WriteIndex.is (record { holds = as_it_is c.told-state; number = c.done-in-WriteIndex.ensures.0; value = c.done-in-WriteIndex.ensures.1 ∙ sym (index-byte c.args.state.now) })
