-- The component at the position, by the mode.
use Rattle.lent_chip.specs.Layout.{INDEX}
use Rattle.lent_chip.proofs.Holding.{shown-at}
use Rattle.std.proofs.Common.{arith, rules}
use Rattle.lent_chip.proofs.paldata.Goals as goal

pub returns : goal.returns
returns c = rw (shown-at c.args.state.now (omega (arith, c.fits-state INDEX)), c.by_mode.ensures, c.is_eight_bit-eight.ensures, c.colour_place-at.ensures.0)
