-- Room for the longest, and none.
use Rattle.std.proofs.Common.{◌+◌, length, arith}
use Rattle.text.specs.Refused.{placed}
use Rattle.text.proofs.Adding.{none_in, in_added, placed_most}
use Rattle.text.proofs.add_place.Goals as goal

pub returns-then-has_room : goal.returns-then-has_room
returns-then-has_room c =
    let a = c.args in
    in_added (length a.word.now + 22) a.out.now a.at (placed a.word.now a.k) (omega (arith, c.has_room.ensures.more_bound.0 c.if-has_room.true)) (placed_most a.word.now a.k) c.put_place.ensures

pub returns : goal.returns
returns c =
    let a = c.args in
    none_in (length a.word.now + 22) a.out.now a.at (placed a.word.now a.k) (omega (arith, c.has_room.ensures.more_bound.1 c.if-has_room.false))
