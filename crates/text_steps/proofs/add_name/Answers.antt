-- Room for the longest, and none.
use native.Mathlib.Omega.{arith}
use Rattle.text.proofs.Adding.{none_in, in_added}
use Rattle.text_steps.specs.Written.{name_text}
use Rattle.text_steps.proofs.Lengths.{name_most}
use Rattle.text_steps.proofs.add_name.Goals as goal

pub returns-then-has_room : goal.returns-then-has_room
returns-then-has_room c = let a = c.args in in_added 7 a.out.now a.at (name_text a.group a.index) (omega (arith, c.has_room.ensures.more_bound.0 c.if-has_room.true)) (name_most a.group a.index) c.put_name.ensures

pub returns : goal.returns
returns c = let a = c.args in none_in 7 a.out.now a.at (name_text a.group a.index) (omega (arith, c.has_room.ensures.more_bound.1 c.if-has_room.false))
