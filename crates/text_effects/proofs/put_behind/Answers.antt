-- Three spaces and what differs, or the line feed alone.
use native.Mathlib.Omega.{arith}
use mathlib.Core.Path.{sym, ◌∙◌}
use Rattle.text.proofs.Adding.{then_in}
use Rattle.text_effects.proofs.EffectLaws.{behind_other, behind-same}
use Rattle.text_effects.proofs.put_behind.Goals as goal

pub returns-then-changed : goal.returns-then-changed
returns-then-changed c =
    let a = c in
    let other = sym a.requires.told ∙ c.if-changed.true in
    rw (behind_other _ _ other) (then_in 38400 (c.add-end.ensures.here (omega arith)) c.tell_changes.ensures (omega arith))

pub returns : goal.returns
returns c =
    let a = c in
    let same = sym a.requires.told ∙ c.if-changed.false in
    rw (behind-same _ _ same) (c.add.ensures.here (omega arith))
