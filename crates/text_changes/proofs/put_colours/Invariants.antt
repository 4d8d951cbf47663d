use Prim.Native.Nat.{ℕ}
use Rattle.chip.specs.State.{named}
use Rattle.chip.specs.View.{view}
use Rattle.text_registers.proofs.Growing.{Grown}
use Rattle.chip.specs.Palette.{entry}
use Rattle.text_changes.specs.Changes.{colour_change}
use Rattle.text_changes.proofs.put_colours.Given as goal

abbrev pub invariant-loop-k : goal.invariant-loop-k
invariant-loop-k l = Grown (λ (e : ℕ). colour_change e (entry (named (view l.before)) e) (entry (named (view l.after)) e)) l.initial.out l.from l.k l.out l.at
