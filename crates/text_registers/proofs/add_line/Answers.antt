-- None is listed, and there is no line; else the name, the cells and the line feed, one behind the other.
use mathlib.Core.Path.{sym, ◌∙◌}
use native.Mathlib.Omega.{arith}
use Rattle.chip_registers.specs.Groups.{group_at}
use Rattle.chip.specs.State.{named}
use Rattle.chip.specs.View.{view}
use Rattle.lists.proofs.Put.{added_none, added_append}
use Rattle.text.proofs.Adding.{then_in}
use Rattle.text_steps.proofs.Lengths.{name_most}
use Rattle.text_registers.specs.Line.{across, line}
use Rattle.text_registers.specs.Text.{line_at}
use Rattle.text_registers.proofs.Lengths.{cells_length}
use Rattle.text_registers.proofs.add_line.Goals as goal

-- none is listed
pub returns-then-not-any_listed : goal.returns-then-not-any_listed
unfolding line line_at
returns-then-not-any_listed c =
    let any = rw (c.group_at-group.ensures, c.count_across-n.ensures.0) at c.any_listed.ensures in
    rw (sym any ∙ c.if-not-any_listed.true) (added_none _ _)

-- the line
pub returns : goal.returns
unfolding line line_at
returns c =
    let a = c.args in
    let group = c.group_at-group.ensures in
    let across-it = c.count_across-n.ensures in
    let any = rw (group, across-it.0) at c.any_listed.ensures in
    let name = c.add_name-name.ensures.here (omega arith) in
    let cells = rw (group, across-it.0) at c.add_cells-end.ensures in
    let seven = name_most a.g a.i in
    let all = cells_length (group_at a.g) (named (view a.chip)) a.i (across a.g) in
    rw (sym any ∙ c.if-not-any_listed.false)
    (then_in 1 (added_append name cells (omega arith)) c.add.ensures (omega arith))
