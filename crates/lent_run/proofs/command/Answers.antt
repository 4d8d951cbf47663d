-- Four bytes of no known form.
use mathlib.Core.Path.{refl}
use Rattle.chip_run.specs.Run.{one}
use Rattle.lent_chip.proofs.Holding.{as_it_is}
use Rattle.lent_run.proofs.Turns.{unchanged}
use borrow.Author.Rules.{rules}
use Rattle.lent_run.proofs.command.Goals as goal

pub returns-in_default : goal.returns-in_default
unfolding one
returns-in_default c = rw (← c.command_of.ensures, c.in_default.is) (record { holds = as_it_is c.told-state; verdict = refl; acc = refl; changed = unchanged _ })
