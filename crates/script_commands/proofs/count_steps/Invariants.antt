use Prim.Native.Nat.{◌*◌, ◌≤◌}
use mathlib.Core.Path.{◌≡◌}
use lib.ListN.{length}
use Rattle.script_commands.specs.Translation.{steps_to}
use Rattle.script_commands.proofs.count_steps.Given as goal

-- the commands of the first j steps are counted, and these steps are kept in mind
abbrev pub invariant-loop-j : goal.invariant-loop-j
invariant-loop-j g l = let L = g.L.Listing in record {
  counted : l.k ≡ length (L.list (steps_to l.file l.j));
  few : l.k ≤ 8 * l.j;
  kept : L.Behind l.list (steps_to l.file l.j);
}
