-- The loop's invariant: the lines of the first k entries stand in the output.
use native.Mathlib.Omega.{arith}
use Rattle.text_registers.proofs.Growing.{added_start, room_next, added_next}
use Rattle.text_changes.proofs.Lengths.{colour_most}
use Rattle.text_changes.proofs.put_colours.Goals as goal

pub loop-k-init : goal.loop-k-init
loop-k-init c = added_start _ _

-- room for a line
pub put_colour-at-requires : goal.put_colour-at-requires
put_colour-at-requires c = room_next 24 (λ e. colour_most _ _ _) c.loop-k.invariant (omega arith)

-- a line more, or none
pub loop-k-preserved : goal.loop-k-preserved
loop-k-preserved c =
    let one = rw (c.stored-old.ensures, c.stored-new.ensures) at c.put_colour-at.ensures in
    added_next 24 (λ e. colour_most _ _ _) c.loop-k.invariant (omega arith) one
