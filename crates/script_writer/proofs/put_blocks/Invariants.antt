use mathlib.Core.Path.{◌≡◌}
use mathlib.Core.List.{◌++◌}
use Prim.Native.Nat.{◌*◌}
use lib.ListN.{drop}
use Rattle.script_writer.specs.Write.{blocks_to}
use Rattle.script_writer.proofs.put_blocks.Given as goal

abbrev pub invariant-loop-k : goal.invariant-loop-k
invariant-loop-k l = l.out ≡ blocks_to l.list l.n l.k ++ drop (512 * l.k) l.initial.out
