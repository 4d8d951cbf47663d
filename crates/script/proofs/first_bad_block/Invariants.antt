use mathlib.Core.Path.{◌≡◌}
use Prim.Native.Nat.{◌-◌}
use Rattle.lists.specs.Scan.{first_not}
use Rattle.script.specs.File.{blocks, legal_at, first_bad_block}
use Rattle.script.proofs.first_bad_block.Given as goal

abbrev pub invariant-loop-k : goal.invariant-loop-k
invariant-loop-k l = first_bad_block l.file ≡ first_not (legal_at l.file) l.k (blocks l.file - l.k)
