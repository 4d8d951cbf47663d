-- The name, the colon, where, and why, one behind the other.
use Rattle.std.proofs.Common.{arith}
use Rattle.lists.proofs.Put.{added_append}
use Rattle.text.proofs.Adding.{then_in}
use Rattle.script.specs.Numbers.{of_refusal}
use Rattle.text_refusals.specs.Complaint.{complaint}
use Rattle.text_refusals.proofs.Lengths.{place_most, reason_most}
use Rattle.text_refusals.proofs.put_complaint.Goals as goal

pub put_reason-requires : goal.put_reason-requires
put_reason-requires c = omega (arith, place_most c.args.r)

pub returns : goal.returns
unfolding complaint
returns c =
    let r = c.args.r in
    let few = place_most r in
    let short = reason_most (of_refusal r).number in
    let n = c.add-colon.ensures.here (omega arith) in
    let k = then_in 2 n c.add-place.ensures (omega arith) in
    let p = added_append k c.put_place-what.ensures (omega arith) in
    let e = rw c.number.ensures at c.put_reason.ensures in
    added_append p e (omega arith)
