-- The word, the number, the colours and the line feed, one behind the other.
use native.Mathlib.Omega.{arith}
use Rattle.lists.proofs.Put.{added_append}
use Rattle.text.proofs.Adding.{then_in}
use Rattle.text_changes.specs.Changes.{colour_line}
use Rattle.text_changes.proofs.put_entry.Goals as goal

pub returns : goal.returns
unfolding colour_line
returns c =
    let word = c.add-word.ensures.here (omega arith) in
    let number = added_append word (c.add_byte-number.ensures.here (omega arith)) (omega arith) in
    let middle = added_append number c.put_bytes-middle.ensures (omega arith) in
    then_in 1 (added_append middle c.put_bytes-end.ensures (omega arith)) c.add.ensures (omega arith)
