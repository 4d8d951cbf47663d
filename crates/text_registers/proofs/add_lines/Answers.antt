-- The loop's invariant: the first k lines stand in the output.
use native.Mathlib.Omega.{arith}
use Rattle.text_registers.proofs.Growing.{added_start, room_next, added_next}
use Rattle.text_registers.proofs.Lengths.{line_at_most}
use Rattle.text_registers.proofs.add_lines.Goals as goal

pub loop-k-init : goal.loop-k-init
loop-k-init c = added_start _ _

-- room for a line
pub add_line-at-requires : goal.add_line-at-requires
add_line-at-requires c = (omega arith, room_next 56 (λ j. line_at_most _ _ _) c.loop-k.invariant (omega arith))

-- a line more
pub loop-k-preserved : goal.loop-k-preserved
loop-k-preserved c = added_next 56 (λ j. line_at_most _ _ _) c.loop-k.invariant (omega arith) c.add_line-at.ensures
