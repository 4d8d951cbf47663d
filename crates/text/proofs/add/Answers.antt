-- Room for the longest, and none.
use Rattle.std.proofs.Common.{arith, length}
use Rattle.text.proofs.Adding.{none_in, in_added}
use Rattle.text.proofs.add.Goals as goal

pub returns-then-has_room : goal.returns-then-has_room
returns-then-has_room c =
    let a = c.args in
    in_added (length a.bytes.now) a.out.now a.at a.bytes.now (omega (arith, c.has_room.ensures.more_bound.0 c.if-has_room.true)) (omega arith) c.copy.ensures

pub returns : goal.returns
returns c =
    let a = c.args in
    none_in (length a.bytes.now) a.out.now a.at a.bytes.now (omega (arith, c.has_room.ensures.more_bound.1 c.if-has_room.false))
