-- Each turn takes a byte.
use Rattle.std.proofs.Common.{◌-◌, length}
use Rattle.workbench.proofs.Session.piece.Given as goal

abbrev pub decreases-loop-from : goal.decreases-loop-from
decreases-loop-from g l = length l.bytes - l.from
