-- What is still to come from here is the whole run.
use Rattle.std.proofs.Common.{◌≡◌, ◌*◌, ◌≤◌}
use Rattle.chip.specs.View.{view}
use Rattle.chip_run.specs.Run.{ran}
use Rattle.chip_run.proofs.Turns.{rest}
use Rattle.chip_run.proofs.run.Given as goal

abbrev pub invariant-loop-place : goal.invariant-loop-place
invariant-loop-place l = record {
  ahead : rest (view l.chip) l.acc l.place l.changing l.limit l.commands-2 (4 * l.place) ≡ ran (view l.initial.chip) l.commands-2 l.limit;
  below : l.place ≤ l.limit;
  few : l.changing ≤ l.place;
}
