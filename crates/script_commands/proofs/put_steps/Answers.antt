-- The reader hands out every step of an accepted file, so neither way out before the last is taken.
use mathlib.Core.Path.{◌≡◌, refl, sym, ap, ◌∙◌}
use native.Mathlib.Omega.{arith}
use Rattle.lists.proofs.Put.{added_none}
use Rattle.script.specs.Reader.{next_of}
use Rattle.script_commands.specs.Command.{bytes_of_all}
use Rattle.script_commands.specs.Translation.{steps_to}
use Rattle.script_commands.proofs.Counted.{steps_next, never_refused, past_last}
use Rattle.script_commands.proofs.Translating.{added_step, steps_put}
use Rattle.std.specs.Prelude.{Ok, Some}
use Rattle.script_commands.proofs.put_steps.Goals as goal

pub loop-j-init : goal.loop-j-init
unfolding bytes_of_all steps_to
loop-j-init g c =
    record { put = rw c.start-list.ensures.none (added_none _ _); room = omega arith; size = refl; kept = c.start-list.ensures.kept }

pub returns-in_err-step : goal.returns-in_err-step
returns-in_err-step g c = absurd (never_refused _ _ c.requires.accepted _ (sym c.nth-next.ensures.0 ∙ c.in_err-step.was))

pub returns-in_default : goal.returns-in_default
returns-in_default g c =
    let past = past_last _ _ c.requires.accepted _ (sym c.nth-next.ensures.0 ∙ c.in_ok-step.was ∙ ap Ok c.in_default.is) in
    absurd (omega (arith, past))

-- a step's commands written, and the step kept in mind
pub loop-j-preserved : goal.loop-j-preserved
loop-j-preserved g c =
    let a = c.args in
    let i = c.loop-j.invariant in
    let s : next_of a.file.now c.loop-j.j ≡ Ok (Some c.in-Some.step) = sym c.nth-next.ensures.0 ∙ c.in_ok-step.was ∙ ap Ok c.in-Some.is in
    let more = c.knows-known.ensures.more _ i.kept in
    let (put, room, size) = added_step a.file.now a.out.now c.loop-j.j g.L.Listing.list _ s more i.put c.add_step-at.ensures i.room i.size (omega arith) in
    record { put = put; room = room; size = size; kept = rw (steps_next _ _ s) (c.knows-known.ensures.kept _ i.kept) }

-- all m of them
pub returns : goal.returns
returns g c =
    let all : c.loop-j.j ≡ c.args.m = omega arith in
    steps_put (g.L.Listing.list (steps_to c.args.file.now c.args.m)) _ (rw all at c.loop-j.invariant.put)
