use Rattle.std.proofs.Common.{◌≤◌, length, sym, ◌∙◌, arith}
use Rattle.lists.proofs.Put.{added_none}
use Rattle.script.proofs.Reading.{accepted-handed}
use Rattle.text_from_script.proofs.Showing.{text_most, text_start, text_step}
use Rattle.text_from_script.proofs.put_lines.Goals as goal

pub loop-j-init : goal.loop-j-init
loop-j-init c = rw text_start (added_none _ _)

pub returns-in_err-step : goal.returns-in_err-step
returns-in_err-step c =
    let h = accepted-handed _ _ c.requires.0 c.loop-j.j (omega arith) in
    let e = sym (c.nth.ensures.0 ∙ h.answer) ∙ c.in_err-step.was in
    absurd (cc)

pub returns-in_default : goal.returns-in_default
returns-in_default c =
    let h = accepted-handed _ _ c.requires.0 c.loop-j.j (omega arith) in
    let e = sym (c.nth.ensures.0 ∙ h.answer) ∙ c.in_ok-step.was in
    absurd (c.in_default.not-Some h.step (cc))

pub loop-j-preserved : goal.loop-j-preserved
loop-j-preserved c =
    let l = c.loop-j in
    let a = c.args in
    let few = text_most a.file.now l.j in
    let one = c.add_step-at.ensures.here (omega arith) in
    let room : c.add_step-at.result ≤ length a.out.now = omega arith in
    text_step _ _ _ _ (sym c.nth.ensures.0 ∙ c.in_ok-step.was ∙ cc) l.invariant one room
