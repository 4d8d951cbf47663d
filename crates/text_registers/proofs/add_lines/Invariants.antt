use Prim.Native.Nat.{ℕ, ◌*◌}
use Rattle.chip.specs.State.{named}
use Rattle.chip.specs.View.{view}
use Rattle.text_registers.proofs.Growing.{Grown}
use Rattle.text_registers.specs.Text.{line_at}
use Rattle.text_registers.proofs.add_lines.Given as goal

abbrev pub invariant-loop-k : goal.invariant-loop-k
invariant-loop-k l = Grown (λ (j : ℕ). line_at l.g (named (view l.chip)) (16 * j)) l.initial.out l.from l.k l.out l.at
