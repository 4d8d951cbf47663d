-- Three stores, each component by the mode; what the three bytes were is compared before.
use Rattle.std.proofs.Common.{◌+◌, ◌*◌, not, set, ap, ◌∙◌, arith, lt-length-set, rules}
use Rattle.chip.specs.Palette.{coloured}
use Rattle.lent_chip.specs.Layout.{PALETTE}
use Rattle.lent_chip.proofs.Holding.{as_it_is, now_holds, then_colour}
use Rattle.lent_chip.proofs.Words.{colour_told}
use Rattle.lent_chip.proofs.put_colour.Goals as goal

pub returns-clause-holds : goal.returns-clause-holds
unfolding coloured
returns-clause-holds c =
    let stored = then_colour c.args.e _ _ _ (as_it_is c.told-state) (omega arith) in
    now_holds stored (rw (c.by_mode-b.ensures, c.by_mode-g.ensures, c.by_mode-r.ensures, c.is_eight_bit-eight.ensures))

pub returns-clause-value : goal.returns-clause-value
unfolding coloured
returns-clause-value c =
    let a = c.args in
    let mode = c.is_eight_bit-eight.ensures in
    ap not (colour_told a.state.now a.e a.colour.red a.colour.green a.colour.blue (omega arith)
    (c.by_mode-r.ensures ∙ rw mode) (c.by_mode-g.ensures ∙ rw mode) (c.by_mode-b.ensures ∙ rw mode))
