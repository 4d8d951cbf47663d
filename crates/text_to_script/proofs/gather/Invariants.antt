-- The loop's invariant: what is still to come from here is the whole answer.
use Prim.Native.Nat.{◌+◌, ◌-◌}
use lib.ListN.{length}
use Rattle.text_to_script.proofs.Gathering.{Going}
use Rattle.text_to_script.proofs.gather.Given as goal

abbrev pub invariant-loop-from : goal.invariant-loop-from
invariant-loop-from l = Going l.text l.steps l.from l.k l.n

abbrev pub decreases-loop-from : goal.decreases-loop-from
decreases-loop-from l = length l.text + 1 - l.from
