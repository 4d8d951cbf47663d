-- The loop's invariant: the lines of the first k indexes stand in the output.
use native.Mathlib.Omega.{arith}
use Rattle.text_registers.proofs.Growing.{added_start, room_next, added_next}
use Rattle.text_changes.proofs.Lengths.{register_most}
use Rattle.text_changes.proofs.put_registers.Goals as goal

pub loop-k-init : goal.loop-k-init
loop-k-init c = added_start _ _

-- room for a line
pub put_register-at-requires : goal.put_register-at-requires
put_register-at-requires c = room_next 14 (λ i. register_most _ _ _ _) c.loop-k.invariant (omega arith)

-- a line more, or none
pub loop-k-preserved : goal.loop-k-preserved
loop-k-preserved c =
    let one = rw (c.byte-old.ensures, c.byte-new.ensures, c.group_at-group.ensures) at c.put_register-at.ensures in
    added_next 14 (λ i. register_most _ _ _ _) c.loop-k.invariant (omega arith) one
