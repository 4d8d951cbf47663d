-- Nothing, or the line.
use borrow.Author.Rules.{rules}
use mathlib.Core.Path.{sym, ◌∙◌}
use Rattle.lists.proofs.Put.{added_none}
use Rattle.text_changes.specs.Changes.{colour_change}
use Rattle.text_changes.proofs.put_colour.Goals as goal

pub returns-then-is_same : goal.returns-then-is_same
unfolding colour_change
returns-then-is_same c = rw (sym c.is_same.ensures ∙ c.if-is_same.true) (added_none _ _)

pub returns : goal.returns
unfolding colour_change
returns c = rw (sym c.is_same.ensures ∙ c.if-is_same.false) c.put_entry.ensures
