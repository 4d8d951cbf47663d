-- The word, the digits and the line feed, one behind the other.
use Rattle.std.proofs.Common.{arith}
use Rattle.lists.proofs.Put.{added_append}
use Rattle.text.proofs.DigitLaws.{decimal_most}
use Rattle.text.proofs.put_refused.Goals as goal

pub copy-requires : goal.copy-requires
copy-requires c = omega (arith, decimal_most 20 c.args.number)

pub returns : goal.returns
returns c =
    let few = decimal_most 20 c.args.number in
    added_append (added_append c.copy-first.ensures c.put_decimal-end.ensures (omega arith)) c.copy.ensures (omega arith)
