-- The access is answered.
use mathlib.Core.Path.{refl}
use Rattle.lent_run.proofs.Turns.{sent}
use borrow.Author.Rules.{rules}
use Rattle.lent_run.proofs.send.Goals as goal

pub returns : goal.returns
returns c = sent _ _ c.write_in-w.ensures c.verdict_of.ensures c.changed_by.ensures refl
