-- Each way out is a turn of the law of what is still to come.
use Rattle.std.proofs.Common.{◌≡◌, ◌+◌, ◌*◌, ◌%◌, ◌<◌, length, ap, ◌∙◌, arith}
use Rattle.chip.specs.View.{view}
use Rattle.chip_run.specs.Run.{one}
use Rattle.chip_run.specs.View.{view_did}
use Rattle.chip_run.proofs.RunNumbers.{run_answered}
use Rattle.chip_run.proofs.Turns.{read-four, added_most, finished, limited, advanced, halted, whole, uneven}
use Rattle.chip_run.proofs.run.Goals as goal

pub returns-in_default : goal.returns-in_default
returns-in_default c =
    let odd : length c.args.commands.now % 4 ≡ 0 → ⊥ = λ e. omega arith in
    let (result, (count, ending)) = run_answered _ _ _ (uneven (view c.args.chip) c.args.commands.now c.args.limit odd) in
    record { result_value = result; count_value = count; ending_value = ending }

pub loop-place-init : goal.loop-place-init
loop-place-init c = record {
  ahead = whole (view c.args.chip) c.args.commands.now c.args.limit (omega arith);
  below = omega arith;
  few = omega arith;
}

pub returns-then-place-limit : goal.returns-then-place-limit
returns-then-place-limit c =
    let l = c.loop-place in
    let a = c.args in
    let room : 4 * l.place + 3 < length a.commands.now = omega arith in
    let e = limited (view l.chip) l.acc l.place l.changing a.limit a.commands.now (4 * l.place) room c.if-place-limit.true ∙ l.invariant.ahead in
    let (result, (count, ending)) = run_answered _ _ _ e in
    record { result_value = result; count_value = count; ending_value = ending }

pub returns-in-Err : goal.returns-in-Err
returns-in-Err c =
    let l = c.loop-place in
    let a = c.args in
    let room : 4 * l.place + 3 < length a.commands.now = omega arith in
    let below : l.place < a.limit = omega arith in
    let four = read-four a.commands.now c.as_chunks.ensures.front l.place _ (omega arith) in
    let is = c.command-did.ensures.result_value ∙ ap (one (view l.chip) l.acc) four in
    let e = halted (view l.chip) l.acc l.place l.changing a.limit a.commands.now (4 * l.place) room below _ is c.in-Err.why c.in-Err.is ∙ l.invariant.ahead in
    let (result, (count, ending)) = run_answered _ _ _ e in
    record { result_value = result; count_value = count; ending_value = ending }

pub loop-place-preserved : goal.loop-place-preserved
loop-place-preserved c =
    let l = c.loop-place in
    let a = c.args in
    let did = c.command-did in
    let room : 4 * l.place + 3 < length a.commands.now = omega arith in
    let below : l.place < a.limit = omega arith in
    let four = read-four a.commands.now c.as_chunks.ensures.front l.place _ (omega arith) in
    let is = did.ensures.result_value ∙ ap (one (view l.chip) l.acc) four in
    let changed = rw four at did.ensures.changed_value in
    let next : 4 * (l.place + 1) ≡ 4 * l.place + 4 = omega arith in
    record {
      ahead =
          rw next
          (advanced (view l.chip) l.acc l.place l.changing a.limit a.commands.now (4 * l.place) room below (view_did did.result) is
          changed c.from-changing.ensures c.in_default-verdict.is
          ∙ l.invariant.ahead);
      below = omega arith;
      few = omega (arith, added_most did.result.changed);
    }

pub returns : goal.returns
returns c =
    let l = c.loop-place in
    let a = c.args in
    let end : l.place ≡ length c.as_chunks.result.0.now = omega arith in
    let e = finished (view l.chip) l.acc l.place l.changing a.limit a.commands.now (4 * l.place) (omega arith) ∙ l.invariant.ahead in
    let (result, (count, ending)) = run_answered _ _ _ (rw end at e) in
    record { result_value = result; count_value = count; ending_value = ending }
