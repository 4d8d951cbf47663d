-- The word, the digits, the colon and the space, one behind the other.
use Rattle.std.proofs.Common.{arith}
use Rattle.lists.proofs.Put.{added_append}
use Rattle.text.proofs.DigitLaws.{decimal_most}
use Rattle.text.proofs.put_place.Goals as goal

pub copy-requires : goal.copy-requires
copy-requires c = omega (arith, decimal_most 20 c.args.k)

pub returns : goal.returns
returns c =
    let few = decimal_most 20 c.args.k in
    added_append (added_append c.copy-first.ensures c.put_decimal-end.ensures (omega arith)) c.copy.ensures (omega arith)
