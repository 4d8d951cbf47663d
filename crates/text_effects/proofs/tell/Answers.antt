-- The translation's refusal, too little room for the text, and the text (proofs/Answers).
use native.Mathlib.Omega.{arith}
use Rattle.std.proofs.lemmas.Result.{err_from_is_err_and}
use Rattle.text_effects.proofs.Answers.{refusal-answers, few, room-answers, front-within, front_length, front-room, text-answers}
use Rattle.text_effects.proofs.tell.Goals as goal

pub overflow_mul-k : goal.overflow_mul-k
overflow_mul-k c = let t = c.translate.ensures in omega (arith, few _ _ c.args.out.now t.value t.out_after _ c.in_ok-k.was)

pub overflow_add-k : goal.overflow_add-k
overflow_add-k c = let t = c.translate.ensures in omega (arith, few _ _ c.args.out.now t.value t.out_after _ c.in_ok-k.was)

-- the front of the buffer
pub slice_bounds-put_effects-end : goal.slice_bounds-put_effects-end
slice_bounds-put_effects-end c = let t = c.translate.ensures in front-within _ _ c.args.out.now t.value t.out_after _ c.in_ok-k.was

pub slice_bounds-put_effects-end-2 : goal.slice_bounds-put_effects-end-2
slice_bounds-put_effects-end-2 c = let t = c.translate.ensures in front_length _ _ c.args.out.now t.value t.out_after _ c.in_ok-k.was

pub put_effects-requires : goal.put_effects-requires
put_effects-requires c = let t = c.translate.ensures in front-room _ _ _ t.value t.out_after _ c.in_ok-k.was c.if-out-k.false

-- the refusal
pub returns-in_err-k : goal.returns-in_err-k
returns-in_err-k c =
    let t = c.translate.ensures in
    let p = err_from_is_err_and c.from_residual.result c.from_residual.ensures.1 in
    let (value, (out, work)) = refusal-answers _ _ c.args.out.now t.value t.out_after _ c.in_err-k.was in
    record { value = rw (p.1, p.2) value; out_after = out; work_after = work }

-- too little room
pub returns-then-out-k : goal.returns-then-out-k
returns-then-out-k c =
    let t = c.translate.ensures in
    let (value, (out, work)) = room-answers _ _ _ t.value t.out_after _ c.in_ok-k.was c.if-out-k.true in
    record { value = value; out_after = out; work_after = work }

-- the text
pub returns : goal.returns
returns c =
    let t = c.translate.ensures in
    let (value, (out, work)) = text-answers _ _ _ t.value t.out_after _ c.in_ok-k.was c.if-out-k.false c.put_effects.ensures in
    record { value = value; out_after = out; work_after = work }
