-- The names of the groups before, and those of this group before an index, are done.
use Prim.Native.Nat.{◌+◌, ◌*◌}
use Rattle.lent_reset.proofs.Bytes.{Done}
use Rattle.lent_reset.proofs.fill.Given as goal

abbrev pub invariant-loop-n : goal.invariant-loop-n
invariant-loop-n l = Done l.first l.second (256 * l.n) l.state

abbrev pub invariant-loop-i : goal.invariant-loop-i
invariant-loop-i l = Done l.first l.second (256 * l.n + l.i) l.state
