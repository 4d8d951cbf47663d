-- Room for the longest, and none.
use Rattle.std.proofs.Common.{arith}
use Rattle.text.proofs.Adding.{none_in, in_added}
use Rattle.text_refusals.specs.Complaint.{reason}
use Rattle.text_refusals.proofs.Lengths.{reason_most}
use Rattle.text_refusals.proofs.add_reason.Goals as goal

pub returns-then-has_room : goal.returns-then-has_room
returns-then-has_room c =
    let a = c.args in
    in_added 91 a.out.now a.at (reason a.n) (omega (arith, c.has_room.ensures.more_bound.0 c.if-has_room.true)) (reason_most a.n) c.put_reason.ensures

pub returns : goal.returns
returns c =
    let a = c.args in
    none_in 91 a.out.now a.at (reason a.n) (omega (arith, c.has_room.ensures.more_bound.1 c.if-has_room.false))
