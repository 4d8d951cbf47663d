-- Room for the longest, and none.
use native.Mathlib.Omega.{arith}
use Rattle.chip.specs.State.{named}
use Rattle.chip.specs.View.{view}
use Rattle.text.proofs.Adding.{none_in, in_added}
use Rattle.text_registers.specs.Text.{dumped}
use Rattle.text_registers.proofs.Lengths.{dumped_most}
use Rattle.text_registers.proofs.dump.Goals as goal

pub returns-then-has_room : goal.returns-then-has_room
returns-then-has_room c = let a = c.args in in_added 8192 a.out.now a.at (dumped (named (view a.chip))) (omega (arith, c.has_room.ensures.more_bound.0 c.if-has_room.true)) (dumped_most (named (view a.chip))) c.add_paragraphs.ensures

pub returns : goal.returns
returns c = let a = c.args in none_in 8192 a.out.now a.at (dumped (named (view a.chip))) (omega (arith, c.has_room.ensures.more_bound.1 c.if-has_room.false))
