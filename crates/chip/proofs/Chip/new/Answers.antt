-- The tables as `fill` makes them.
use Rattle.std.proofs.Common.{refl}
use Rattle.chip.proofs.Places.{new_shown}
use Rattle.chip.proofs.Chip.new.Goals as goal

pub returns : goal.returns
returns c =
    new_shown _ _ _ c.default-3.result c.fill.ensures c.after_reset.ensures c.after_reset-2.ensures refl refl c.default-3.ensures c.default.ensures c.default-2.ensures
