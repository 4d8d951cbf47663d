-- The word, the number and the line feed, one behind the other.
use native.Mathlib.Omega.{arith}
use Rattle.text.proofs.Adding.{then_in}
use Rattle.text_played.specs.Told.{commands_line}
use Rattle.text_played.proofs.put_commands.Goals as goal

pub returns : goal.returns
unfolding commands_line
returns c =
    let w = c.add-number.ensures.here (omega arith) in
    let d = then_in 20 w c.add_decimal-end.ensures (omega arith) in
    then_in 1 d c.add.ensures (omega arith)
