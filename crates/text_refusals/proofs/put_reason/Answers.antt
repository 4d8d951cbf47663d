-- The word, the number, the comma, the words and the line feed, one behind the other.
use Rattle.std.proofs.Common.{arith}
use Rattle.lists.proofs.Put.{added_append}
use Rattle.text.proofs.Adding.{then_in}
use Rattle.text_refusals.specs.Complaint.{reason}
use Rattle.text_refusals.proofs.Lengths.{words_most}
use Rattle.text_refusals.proofs.put_reason.Goals as goal

pub returns : goal.returns
unfolding reason
returns c =
    let short = words_most c.args.n in
    let w = c.add-number.ensures.here (omega arith) in
    let d = then_in 20 w c.add_decimal-comma.ensures (omega arith) in
    let k = then_in 2 d c.add-words.ensures (omega arith) in
    then_in 1 (added_append k c.put_words-end.ensures (omega arith)) c.add.ensures (omega arith)
