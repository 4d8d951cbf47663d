-- The three bytes.
use Rattle.std.proofs.Common.{◌∙◌}
use Rattle.chip.proofs.DifferLaws.{colours-same}
use Rattle.chip.proofs.palette.is_same.Goals as goal

pub returns : goal.returns
returns c = c.eq.ensures ∙ colours-same c.args.a c.args.b
