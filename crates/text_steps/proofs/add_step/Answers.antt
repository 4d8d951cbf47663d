-- Room for the longest line, and none.
use native.Mathlib.Omega.{arith}
use Rattle.text.proofs.Adding.{none_in, in_added}
use Rattle.text_steps.specs.Written.{step_line}
use Rattle.text_steps.proofs.Lengths.{line_most}
use Rattle.text_steps.proofs.add_step.Goals as goal

pub returns-then-has_room : goal.returns-then-has_room
returns-then-has_room c = let a = c.args in in_added 20 a.out.now a.at (step_line a.step) (omega (arith, c.has_room.ensures.more_bound.0 c.if-has_room.true)) (line_most a.step) c.put_line.ensures

pub returns : goal.returns
returns c = let a = c.args in none_in 20 a.out.now a.at (step_line a.step) (omega (arith, c.has_room.ensures.more_bound.1 c.if-has_room.false))
