-- The loop's invariant: the lines so far stand in the output (proofs/Going).
use mathlib.Core.Path.{◌∙◌}
use Rattle.text_effects.proofs.Going.{ends, goes_on}
use Rattle.text_effects.proofs.put_effects.Goals as goal

-- a line more
pub loop-four-preserved : goal.loop-four-preserved
loop-four-preserved c =
    let (going, four) = c.loop-four.invariant in
    let (size, now, other) = c.in-Some.ensures.steps in
    let said = rw c.command_of.ensures at c.put_words-end.ensures in (
      goes_on _ _ c.requires.0 c.requires.1 going _ _ now.0 (now.1 ∙ four) said c.command-did.ensures.result_value c.put_behind-at.ensures,
      size ∙ four,
    )

-- all of them
pub returns : goal.returns
returns c =
    let (going, four) = c.loop-four.invariant in
    let (size, none, other) = c.in-None.ensures.steps in
    ends _ _ c.requires.0 c.requires.1 going (rw four at none.0)
