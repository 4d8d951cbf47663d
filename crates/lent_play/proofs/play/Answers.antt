-- Another length, a refused file, and the run of what the translation left in the buffer.
use mathlib.Core.Path.{sym, ap, ◌∙◌, refl}
use lib.ListN.{length}
use lib.Seq.{length-take-le}
use borrow.Author.Tests.{ne_eqb}
use native.Mathlib.Omega.{arith}
use Rattle.script_commands.specs.Translation.{left_by}
use Rattle.chip_play.proofs.Playing.{commands_fit, front_fits, front_commands}
use Rattle.lent_play.proofs.Playing.{play_answered, undone, unplayed, run_played, buffered}
use borrow.Author.Rules.{rules}
use Rattle.std.specs.Prelude.{ℕ, Result}
use Rattle.script.specs.declared.Refusal.{Refusal}
use Rattle.lent_play.proofs.play.Goals as goal

pub overflow_mul-end : goal.overflow_mul-end
overflow_mul-end c = omega (arith, commands_fit c.args.file.now (length c.args.buffer.now) _ (sym c.translate.ensures.value ∙ c.in-Ok.is))

pub slice_bounds-run-end : goal.slice_bounds-run-end
slice_bounds-run-end c =
    let a = c.args in
    let left = c.translate.ensures.out_after ∙ ap (λ (t : Result ℕ Refusal). left_by t a.file.now a.buffer.now) c.in-Ok.is in
    front_fits a.file.now a.buffer.now _ (sym c.translate.ensures.value ∙ c.in-Ok.is) left

pub slice_bounds-run-end-in-Ok : goal.slice_bounds-run-end-in-Ok
slice_bounds-run-end-in-Ok c =
    let a = c.args in
    let left = c.translate.ensures.out_after ∙ ap (λ (t : Result ℕ Refusal). left_by t a.file.now a.buffer.now) c.in-Ok.is in
    sym (length-take-le _ _ (front_fits a.file.now a.buffer.now _ (sym c.translate.ensures.value ∙ c.in-Ok.is) left))

pub returns-in-Err : goal.returns-in-Err
returns-in-Err c =
    let a = c.args in
    let size = c.if-state-ne-STATE.false in
    let t = c.translate.ensures in
    let d = unplayed a.state.now a.file.now (length a.buffer.now) size (sym t.value ∙ c.in-Err.is) in
    let p = play_answered d (buffered a.state.now a.file.now a.buffer.now size t.value t.out_after) in
    record { value = p.0; left = p.1.0; by_name_in = p.1.1.0; buffer_after = p.1.1.1.0; result_value = p.1.1.1.1 }

pub returns-in_ok-tally-in-Ok : goal.returns-in_ok-tally-in-Ok
returns-in_ok-tally-in-Ok c =
    let a = c.args in
    let size = c.if-state-ne-STATE.false in
    let t = c.translate.ensures in
    let is = sym t.value ∙ c.in-Ok.is in
    let left = t.out_after ∙ ap (λ (t : Result ℕ Refusal). left_by t a.file.now a.buffer.now) c.in-Ok.is in
    let front = front_commands a.file.now a.buffer.now _ is left in
    let d = run_played a.state.now a.file.now (length a.buffer.now) size is front c.run.ensures.value c.run.ensures.left c.in_ok-tally-in-Ok.was in
    let p = play_answered d (buffered a.state.now a.file.now a.buffer.now size t.value t.out_after) in
    record { value = p.0; left = p.1.0; by_name_in = p.1.1.0; buffer_after = p.1.1.1.0; result_value = p.1.1.1.1 }
