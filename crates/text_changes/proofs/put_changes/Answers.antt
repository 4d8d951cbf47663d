-- Registers, and behind them colours.
use native.Mathlib.Omega.{arith}
use Rattle.chip.specs.State.{named}
use Rattle.chip.specs.View.{view}
use Rattle.lists.proofs.Put.{added_append}
use Rattle.text_changes.specs.Changes.{changed}
use Rattle.text_changes.proofs.Lengths.{groups_most, colours_most}
use Rattle.text_changes.proofs.put_changes.Goals as goal

pub put_colours-requires : goal.put_colours-requires
unfolding changed
put_colours-requires c = let a = c.args in omega (arith, groups_most (named (view a.before)) (named (view a.after)) 9)

pub returns : goal.returns
unfolding changed
returns c =
    let a = c.args in
    let r = c.put_groups-end.ensures in
    let e = c.put_colours.ensures in
    added_append r e (omega (arith, groups_most (named (view a.before)) (named (view a.after)) 9, colours_most (named (view a.before)) (named (view a.after)) 256))
