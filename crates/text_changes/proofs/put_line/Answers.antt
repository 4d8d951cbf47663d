-- The name, the two bytes and the line feed, one behind the other.
use native.Mathlib.Omega.{arith}
use Rattle.lists.proofs.Put.{added_append}
use Rattle.text.proofs.Adding.{then_in}
use Rattle.text_steps.proofs.Lengths.{name_most}
use Rattle.text_changes.specs.Changes.{register_line}
use Rattle.text_changes.proofs.put_line.Goals as goal

pub returns : goal.returns
unfolding register_line
returns c =
    let most = name_most c.args.g c.args.i in
    let name = c.add_name-name.ensures.here (omega arith) in
    let bytes = added_append (c.add_byte-middle.ensures.here (omega arith)) (c.add_byte-end.ensures.here (omega arith)) (omega arith) in
    added_append name (then_in 1 bytes c.add.ensures (omega arith)) (omega arith)
