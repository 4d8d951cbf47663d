-- The loop's invariant: the lines of the first g groups stand in the output.
use native.Mathlib.Omega.{arith}
use Rattle.text_registers.proofs.Growing.{added_start, room_next, added_next}
use Rattle.text_changes.proofs.Lengths.{group_most}
use Rattle.text_changes.proofs.put_groups.Goals as goal

pub loop-g-init : goal.loop-g-init
loop-g-init c = added_start _ _

-- room for a group's lines
pub put_registers-at-requires : goal.put_registers-at-requires
put_registers-at-requires c = room_next 3584 (group_most _ _) c.loop-g.invariant (omega arith)

-- a group's lines more
pub loop-g-preserved : goal.loop-g-preserved
loop-g-preserved c = added_next 3584 (group_most _ _) c.loop-g.invariant (omega arith) c.put_registers-at.ensures
