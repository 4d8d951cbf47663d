-- The words and the numbers, one behind the other.
use native.Mathlib.Omega.{arith}
use Rattle.text.proofs.Adding.{then_in}
use Rattle.text_listing.proofs.add_counts.Goals as goal

pub returns : goal.returns
returns c =
    let first = c.add-first.ensures.here (omega arith) in
    let steps = then_in 20 first c.add_decimal-word.ensures (omega arith) in
    let word = then_in 10 steps c.add-second.ensures (omega arith) in
    let count = then_in 20 word c.add_decimal-end.ensures (omega arith) in
    then_in 1 count c.add.ensures (omega arith)
