-- Only XR shows pins.
use Rattle.chip.proofs.ResetLaws.{reset-pinless}
use Rattle.chip.proofs.after_reset.Goals as goal

pub returns-in_default : goal.returns-in_default
returns-in_default c = rw c.reset_byte.ensures (reset-pinless c.args.first c.args.second c.args.g c.args.i c.in_default.not-Xr)
