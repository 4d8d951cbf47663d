-- Room for the longest, and none.
use native.Mathlib.Omega.{arith}
use Rattle.text.proofs.Adding.{none_in, in_added}
use Rattle.text_to_script.specs.Complaint.{complaint}
use Rattle.text_to_script.proofs.Complaining.{complaint_most}
use Rattle.text_to_script.proofs.complain.Goals as goal

pub returns-then-has_room : goal.returns-then-has_room
returns-then-has_room c = let a = c.args in in_added 128 a.out.now a.at (complaint a.c) (omega (arith, c.has_room.ensures.more_bound.0 c.if-has_room.true)) (complaint_most a.c) c.put_complaint.ensures

pub returns : goal.returns
returns c = let a = c.args in none_in 128 a.out.now a.at (complaint a.c) (omega (arith, c.has_room.ensures.more_bound.1 c.if-has_room.false))
