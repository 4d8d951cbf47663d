use Prim.Native.Nat.{ℕ}
use Rattle.chip.specs.State.{named}
use Rattle.chip.specs.View.{view}
use Rattle.text_registers.proofs.Growing.{Grown}
use Rattle.text_registers.specs.Text.{paragraph}
use Rattle.text_registers.proofs.add_paragraphs.Given as goal

abbrev pub invariant-loop-g : goal.invariant-loop-g
invariant-loop-g l = Grown (λ (g : ℕ). paragraph g (named (view l.chip))) l.initial.out l.from l.g l.out l.at
