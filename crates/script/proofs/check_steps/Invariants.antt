use mathlib.Core.Path.{◌≡◌}
use Prim.Native.Nat.{◌-◌}
use Rattle.script.specs.File.{steps_checked}
use Rattle.script.proofs.check_steps.Given as goal

abbrev pub invariant-loop-j : goal.invariant-loop-j
invariant-loop-j l = steps_checked l.layout l.list 0 l.count ≡ steps_checked l.layout l.list l.j-counter (l.count - l.j-counter)
