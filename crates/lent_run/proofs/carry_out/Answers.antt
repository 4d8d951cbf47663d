-- A command that leaves every byte.
use mathlib.Core.Path.{refl}
use Rattle.chip_run.specs.Run.{done}
use Rattle.lent_chip.proofs.Holding.{as_it_is}
use Rattle.lent_run.proofs.Turns.{unchanged}
use borrow.Author.Rules.{rules}
use Rattle.lent_run.proofs.carry_out.Goals as goal

pub returns-in-Merge : goal.returns-in-Merge
unfolding done
returns-in-Merge c = rw c.in-Merge.is (record { holds = as_it_is c.told-state; verdict = refl; acc = refl; changed = unchanged _ })
