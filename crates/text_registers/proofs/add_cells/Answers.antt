-- The loop's invariant: the first k cells stand in the output.
use native.Mathlib.Omega.{arith}
use Rattle.text_registers.proofs.Growing.{added_start, room_next, added_next}
use Rattle.text_registers.proofs.Lengths.{cell_most}
use Rattle.text_registers.proofs.add_cells.Goals as goal

pub loop-k-init : goal.loop-k-init
loop-k-init c = added_start _ _

-- room for a cell
pub add_cell-at-requires : goal.add_cell-at-requires
add_cell-at-requires c = room_next 3 (λ j. cell_most _ _ _) c.loop-k.invariant (omega arith)

-- a cell more
pub loop-k-preserved : goal.loop-k-preserved
loop-k-preserved c = added_next 3 (λ j. cell_most _ _ _) c.loop-k.invariant (omega arith) c.add_cell-at.ensures
