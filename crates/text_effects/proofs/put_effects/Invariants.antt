use mathlib.Core.Path.{◌≡◌}
use Rattle.std.specs.Slice.Iter.{chunks_exact_rest, chunks_exact_size}
use Rattle.chip.specs.View.{view}
use Rattle.text_effects.proofs.Going.{Going}
use Rattle.text_effects.proofs.put_effects.Given as goal

abbrev pub invariant-loop-four : goal.invariant-loop-four
invariant-loop-four l =
    Going l.bytes l.initial.out l.out (view l.chip) l.acc l.at (chunks_exact_rest l.four-iterator) × (chunks_exact_size l.four-iterator ≡ 4)
