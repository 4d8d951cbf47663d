use Prim.Native.Nat.{◌*◌}
use Rattle.lent_run.proofs.Turns.{Going}
use Rattle.lent_run.proofs.run_in.Given as goal

abbrev pub invariant-loop-place : goal.invariant-loop-place
invariant-loop-place l = Going l.initial.state l.commands-2 l.limit l.acc l.place l.changing (4 * l.place) l.state
