-- What differs, and behind it the last line.
use native.Mathlib.Omega.{arith}
use Rattle.chip.specs.State.{named}
use Rattle.chip.specs.View.{view}
use Rattle.lists.proofs.Put.{added_append}
use Rattle.chip_play.specs.Played.{fresh}
use Rattle.text_changes.proofs.Lengths.{changed_most}
use Rattle.text_played.specs.Told.{tale}
use Rattle.text_played.proofs.Lengths.{line_most}
use Rattle.text_played.proofs.put_tale.Goals as goal

pub put_commands-requires : goal.put_commands-requires
unfolding tale
put_commands-requires c = omega (arith, changed_most (named fresh) (named (view c.args.after)))

pub returns : goal.returns
unfolding tale
returns c =
    let a = c.args in
    let d = c.put_changes-end.ensures in
    let e = c.put_commands.ensures in
    added_append d e (omega (arith, changed_most (named fresh) (named (view a.after)), line_most a.count))
