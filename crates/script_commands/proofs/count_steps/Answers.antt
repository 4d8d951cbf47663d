-- The reader hands out every step of an accepted file, and the end past the last.
use mathlib.Core.Path.{◌≡◌, sym, ap, ◌∙◌}
use lib.ListN.{length, length-append}
use native.Mathlib.Omega.{arith}
use Rattle.script.specs.Reader.{next_of}
use Rattle.script.proofs.Checking.{answer_says}
use Rattle.script.proofs.Counting.{accepted_few}
use Rattle.script.proofs.Reading.{found_before}
use Rattle.script_commands.specs.Translation.{steps_to}
use Rattle.script_commands.proofs.Counted.{steps_next, never_refused, past_last, steps_past}
use Rattle.script_commands.proofs.Knowing.{known_most}
use Rattle.std.specs.Prelude.{Ok, Some}
use Rattle.script_commands.proofs.count_steps.Goals as goal

pub loop-j-init : goal.loop-j-init
unfolding steps_to
loop-j-init g c =
    record { counted = rw c.start-list.ensures.none; few = omega arith; kept = c.start-list.ensures.kept }

pub returns-in_err-step : goal.returns-in_err-step
returns-in_err-step g c = absurd (never_refused _ _ c.requires.1 _ (sym c.nth-next.ensures.0 ∙ c.in_err-step.was))

-- the end
pub returns-in_default : goal.returns-in_default
returns-in_default g c =
    let (m, acc) = c.requires in
    let f = c.args.file.now in
    let past = past_last f m acc c.loop-j.j (sym c.nth-next.ensures.0 ∙ c.in_ok-step.was ∙ ap Ok c.in_default.is) in
    (rw (c.in_ok-step.was ∙ ap Ok c.in_default.is) at c.without_step.ensures) ∙ ap Ok (c.loop-j.invariant.counted ∙ ap (λ ss. length (g.L.Listing.list ss)) (sym (steps_past f m acc c.loop-j.j c.args.n past (omega arith))))

pub overflow_add-k : goal.overflow_add-k
overflow_add-k g c =
    let (m, acc) = c.requires in
    let f = c.args.file.now in
    omega (
      arith,
      known_most c.knows-known.result c.in-Some.step,
      found_before f c.loop-j.j _ (sym c.nth-next.ensures.0 ∙ c.in_ok-step.was ∙ ap Ok c.in-Some.is),
      (answer_says f acc).count,
      (accepted_few f m acc).1,
    )

-- a step's commands counted, and the step kept in mind
pub loop-j-preserved : goal.loop-j-preserved
loop-j-preserved g c =
    let f = c.args.file.now in
    let i = c.loop-j.invariant in
    let s : next_of f c.loop-j.j ≡ Ok (Some c.in-Some.step) = sym c.nth-next.ensures.0 ∙ c.in_ok-step.was ∙ ap Ok c.in-Some.is in
    let more = c.knows-known.ensures.more _ i.kept in
    record {
      counted = rw (steps_next _ _ s, more, length-append) (omega arith);
      few = omega (arith, known_most c.knows-known.result c.in-Some.step);
      kept = rw (steps_next _ _ s) (c.knows-known.ensures.kept _ i.kept);
    }
