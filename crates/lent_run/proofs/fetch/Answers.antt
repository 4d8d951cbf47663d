-- The access is answered.
use mathlib.Core.Path.{refl}
use Rattle.lent_run.proofs.Turns.{fetched}
use borrow.Author.Rules.{rules}
use Rattle.lent_run.proofs.fetch.Goals as goal

pub returns : goal.returns
returns c = fetched _ c.read_in-w.ensures c.verdict_of.ensures refl refl
