-- Room for the longest, and none.
use native.Mathlib.Omega.{arith}
use Rattle.chip.specs.State.{named}
use Rattle.chip.specs.View.{view}
use Rattle.text.proofs.Adding.{none_in, in_added}
use Rattle.text_changes.specs.Changes.{changed}
use Rattle.text_changes.proofs.Lengths.{changed_most}
use Rattle.text_changes.proofs.tell_changes.Goals as goal

pub returns-then-has_room : goal.returns-then-has_room
returns-then-has_room c = let a = c.args in in_added 38400 a.out.now a.at (changed (named (view a.«before»)) (named (view a.after))) (omega (arith, c.has_room.ensures.more_bound.0 c.if-has_room.true)) (changed_most (named (view a.«before»)) (named (view a.after))) c.put_changes.ensures

pub returns : goal.returns
returns c = let a = c.args in none_in 38400 a.out.now a.at (changed (named (view a.«before»)) (named (view a.after))) (omega (arith, c.has_room.ensures.more_bound.1 c.if-has_room.false))
