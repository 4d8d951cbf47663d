-- The place, and what is wrong.
use native.Mathlib.Omega.{arith}
use Rattle.lists.proofs.Put.{added_append}
use Rattle.text_to_script.proofs.Complaining.{wrong_most}
use Rattle.text_to_script.proofs.put_stopped.Goals as goal

pub returns : goal.returns
returns c =
    let a = c.args in
    let few = wrong_most c.verdict_number.result in
    let p = rw c.line_number.ensures at (c.add_place-what.ensures.here (omega arith)) in
    added_append p (rw c.verdict_number.ensures at c.put_wrong.ensures) (omega arith)
