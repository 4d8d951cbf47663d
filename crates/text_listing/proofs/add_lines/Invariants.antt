use Prim.Native.Nat.{◌-◌}
use mathlib.Core.Path.{◌≡◌}
use lib.ListN.{length}
use Rattle.lists.specs.Put.{Added}
use Rattle.text_listing.specs.Adding.{lines_to}
use Rattle.text_listing.proofs.add_lines.Given as goal

abbrev pub invariant-loop-j : goal.invariant-loop-j
invariant-loop-j l = Added l.initial.out l.from (lines_to l.bytes l.j) l.out l.at × (length l.out ≡ length l.initial.out)
