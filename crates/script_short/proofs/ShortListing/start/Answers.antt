-- No step has no command, and nothing was sent.
use mathlib.Core.Path.{refl}
use Rattle.script_short.specs.Memory.{kept_of}
use Rattle.script_short.proofs.ShortLaws.{short_start}
use Rattle.script_short.proofs.ShortListing.start.Goals as goal

pub returns : goal.returns
unfolding kept_of
returns c = record { none = short_start; kept = refl }
