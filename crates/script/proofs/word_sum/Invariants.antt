use mathlib.Core.Path.{◌≡◌}
use Prim.Native.Nat.{◌+◌, ◌*◌, ◌%◌}
use lib.ListN.{drop}
use Rattle.script.specs.Block.{word_sum}
use Rattle.script.proofs.word_sum.Given as goal

abbrev pub invariant-loop-i : goal.invariant-loop-i
invariant-loop-i l = (l.sum + word_sum (drop (2 * l.i) l.list)) % 65536 ≡ word_sum l.list % 65536
