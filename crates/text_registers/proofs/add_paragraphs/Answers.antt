-- The loop's invariant: the paragraphs of the first g groups stand in the output.
use native.Mathlib.Omega.{arith}
use Rattle.text_registers.proofs.Growing.{added_start, room_next, added_next}
use Rattle.text_registers.proofs.Lengths.{paragraph_most}
use Rattle.text_registers.proofs.add_paragraphs.Goals as goal

pub loop-g-init : goal.loop-g-init
loop-g-init c = added_start _ _

-- room for a paragraph
pub add_paragraph-at-requires : goal.add_paragraph-at-requires
add_paragraph-at-requires c = room_next 897 (λ j. paragraph_most _ _) c.loop-g.invariant (omega arith)

-- a paragraph more
pub loop-g-preserved : goal.loop-g-preserved
loop-g-preserved c = added_next 897 (λ j. paragraph_most _ _) c.loop-g.invariant (omega arith) c.add_paragraph-at.ensures
