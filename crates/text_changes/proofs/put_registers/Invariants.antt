use Prim.Native.Nat.{ℕ}
use Rattle.chip.specs.State.{named}
use Rattle.chip.specs.View.{view}
use Rattle.text_registers.proofs.Growing.{Grown}
use Rattle.text_changes.specs.Changes.{register_at}
use Rattle.text_changes.proofs.put_registers.Given as goal

abbrev pub invariant-loop-k : goal.invariant-loop-k
invariant-loop-k l = Grown (λ (i : ℕ). register_at (named (view l.before)) (named (view l.after)) l.g i) l.initial.out l.from l.k l.out l.at
