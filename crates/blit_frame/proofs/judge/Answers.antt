-- `blit_frame::judge` meets its contract: the tests of the definition, in its order. Assumes nothing.
use Rattle.std.proofs.Common.{sym, ◌∙◌}
use Rattle.blit_frame.proofs.Areas.{ranges}
use Rattle.blit_frame.proofs.judge.Goals as goal

pub invariant_of-inside-clause-ranges : goal.invariant_of-inside-clause-ranges
invariant_of-inside-clause-ranges c = ranges _ (sym c.in_range.ensures ∙ c.if-not-in_range.false)
