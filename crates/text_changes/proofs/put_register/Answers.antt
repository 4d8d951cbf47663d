-- Nothing, or the line.
use borrow.Author.Tests.{eq-eqb, ne_eqb}
use Rattle.lists.proofs.Put.{added_none}
use Rattle.text_changes.specs.Changes.{register_change}
use Rattle.text_changes.proofs.put_register.Goals as goal

pub returns-then-old-new : goal.returns-then-old-new
unfolding register_change
returns-then-old-new c = rw (eq-eqb _ _ c.if-old-new.true) (added_none _ _)

pub returns : goal.returns
unfolding register_change
returns c = rw (ne_eqb _ _ c.if-old-new.false) c.put_line.ensures
