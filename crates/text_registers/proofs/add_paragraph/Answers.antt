-- The lines, and behind them the line feed.
use native.Mathlib.Omega.{arith}
use Rattle.chip.specs.State.{named}
use Rattle.chip.specs.View.{view}
use Rattle.text.proofs.Adding.{then_in}
use Rattle.text_registers.specs.Line.{across}
use Rattle.text_registers.specs.Text.{paragraph}
use Rattle.text_registers.proofs.Lengths.{across_most, lines_most}
use Rattle.text_registers.proofs.add_paragraph.Goals as goal

pub returns : goal.returns
unfolding paragraph
returns c =
    let a = c.args in
    then_in 1 c.add_lines-end.ensures c.add.ensures
    (omega (arith, lines_most a.g (named (view a.chip)) (across a.g), across_most a.g))
