use mathlib.Core.Path.{◌≡◌}
use lib.Seq.{paste}
use Rattle.script_writer.specs.Write.{places}
use Rattle.script_writer.proofs.put_block.Given as goal

abbrev pub invariant-loop-i : goal.invariant-loop-i
invariant-loop-i l = l.block ≡ paste l.initial.block 6 (places l.list l.k) l.i
