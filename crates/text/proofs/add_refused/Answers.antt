-- Room for the longest, and none.
use Rattle.std.proofs.Common.{arith}
use Rattle.text.specs.Refused.{refused}
use Rattle.text.proofs.Adding.{none_in, in_added, refused_most}
use Rattle.text.proofs.add_refused.Goals as goal

pub returns-then-has_room : goal.returns-then-has_room
returns-then-has_room c =
    let a = c.args in
    in_added 29 a.out.now a.at (refused a.number) (omega (arith, c.has_room.ensures.more_bound.0 c.if-has_room.true)) (refused_most a.number) c.put_refused.ensures

pub returns : goal.returns
returns c =
    let a = c.args in
    none_in 29 a.out.now a.at (refused a.number) (omega (arith, c.has_room.ensures.more_bound.1 c.if-has_room.false))
