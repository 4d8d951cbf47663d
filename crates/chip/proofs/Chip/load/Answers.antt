-- At blue the entry is stored; elsewhere nothing that has a name changes.
use Rattle.std.proofs.Common.{eq-eqb, ne_eqb}
use Rattle.chip.specs.Palette.{loaded}
use Rattle.chip.proofs.ViewLaws.{loading_shown}
use Rattle.chip.proofs.Chip.load.Goals as goal

pub returns-then-l-eq2 : goal.returns-then-l-eq2
unfolding loaded
returns-then-l-eq2 c = rw (c.with_loading.ensures, c.put_colour.ensures, loading_shown _, c.move_on-next.ensures, c.hold.ensures, eq-eqb _ _ c.if-l-eq2.true)

pub returns : goal.returns
unfolding loaded
returns c = rw (c.with_loading-2.ensures, loading_shown _, c.move_on-next.ensures, c.hold.ensures, ne_eqb _ _ c.if-l-eq2.false)
