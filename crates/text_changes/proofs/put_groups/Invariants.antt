use Prim.Native.Nat.{ℕ}
use Rattle.chip.specs.State.{named}
use Rattle.chip.specs.View.{view}
use Rattle.text_registers.proofs.Growing.{Grown}
use Rattle.text_changes.specs.Changes.{indexes, registers_to}
use Rattle.text_changes.proofs.put_groups.Given as goal

abbrev pub invariant-loop-g : goal.invariant-loop-g
invariant-loop-g l = Grown (λ (g : ℕ). registers_to (named (view l.before)) (named (view l.after)) g (indexes g)) l.initial.out l.from l.g l.out l.at
