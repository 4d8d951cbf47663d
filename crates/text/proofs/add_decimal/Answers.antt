-- Room for the longest, and none.
use Rattle.std.proofs.Common.{arith}
use Rattle.text.specs.Digits.{decimal}
use Rattle.text.proofs.Adding.{none_in, in_added}
use Rattle.text.proofs.DigitLaws.{decimal_most}
use Rattle.text.proofs.add_decimal.Goals as goal

pub returns-then-has_room : goal.returns-then-has_room
returns-then-has_room c =
    let a = c.args in
    in_added 20 a.out.now a.at (decimal a.n) (omega (arith, c.has_room.ensures.more_bound.0 c.if-has_room.true)) (decimal_most 20 a.n) c.put_decimal.ensures

pub returns : goal.returns
returns c =
    let a = c.args in
    none_in 20 a.out.now a.at (decimal a.n) (omega (arith, c.has_room.ensures.more_bound.1 c.if-has_room.false))
