-- Room for the longest, and none.
use Rattle.std.proofs.Common.{◌+◌, length, arith}
use Rattle.text.proofs.Adding.{none_in, in_added}
use Rattle.text_refusals.specs.Complaint.{complaint}
use Rattle.text_refusals.proofs.Lengths.{complaint_most}
use Rattle.text_refusals.proofs.complain.Goals as goal

pub returns-then-has_room : goal.returns-then-has_room
returns-then-has_room c =
    let a = c.args in
    in_added (length a.name.now + 128) a.out.now a.at (complaint a.name.now a.r) (omega (arith, c.has_room.ensures.more_bound.0 c.if-has_room.true)) (complaint_most a.name.now a.r) c.put_complaint.ensures

pub returns : goal.returns
returns c =
    let a = c.args in
    none_in (length a.name.now + 128) a.out.now a.at (complaint a.name.now a.r) (omega (arith, c.has_room.ensures.more_bound.1 c.if-has_room.false))
