-- The word, the number and the line feed, one behind the other.
use native.Mathlib.Omega.{arith}
use Rattle.text.proofs.Adding.{then_in}
use Rattle.text_listing.proofs.add_changing.Goals as goal

pub returns : goal.returns
returns c =
    let w = c.add-word.ensures.here (omega arith) in
    let d = then_in 20 w c.add_decimal-end.ensures (omega arith) in
    then_in 1 d c.add.ensures (omega arith)
