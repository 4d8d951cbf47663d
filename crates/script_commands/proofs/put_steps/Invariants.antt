use Prim.Native.Nat.{◌*◌, ◌≤◌}
use mathlib.Core.Path.{◌≡◌}
use lib.ListN.{length}
use Rattle.lists.specs.Put.{Added}
use Rattle.script_commands.specs.Command.{bytes_of_all}
use Rattle.script_commands.specs.Translation.{steps_to}
use Rattle.script_commands.proofs.put_steps.Given as goal

-- the commands of the first j steps stand in the output, and these steps are kept in mind
abbrev pub invariant-loop-j : goal.invariant-loop-j
invariant-loop-j g l = let L = g.L.Listing in record {
  put : Added l.initial.out 0 (bytes_of_all (L.list (steps_to l.file l.j))) l.out l.at;
  room : l.at ≤ 32 * l.j;
  size : length l.out ≡ length l.initial.out;
  kept : L.Behind l.list (steps_to l.file l.j);
}
