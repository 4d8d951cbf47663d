-- What the check refuses, too little room, and the text.
use Rattle.std.proofs.Common.{length, refl, sym, ◌∙◌, arith}
use Rattle.std.proofs.lemmas.Result.{err_from_is_err_and}
use Rattle.text_from_script.proofs.Showing.{shown-refused, shown_short, shown-text, shown-told}
use Rattle.text_from_script.proofs.show.Goals as goal

pub returns-in_err-m-clause-value : goal.returns-in_err-m-clause-value
returns-in_err-m-clause-value c =
    let p = err_from_is_err_and c.from_residual.result c.from_residual.ensures.1 in
    rw (p.1, p.2) (shown-refused c.args.file.now (length c.args.out.now) _ (sym c.check_file.ensures.value ∙ c.in_err-m.was))

pub returns-then-out-m : goal.returns-then-out-m
returns-then-out-m c =
    let a = c.args in
    let e = shown_short a.file.now (length a.out.now) _ (sym c.check_file.ensures.value ∙ c.in_ok-m.was) (omega arith) in
    record { value = e; out_after = refl; result_value = shown-told a.file.now (length a.out.now) e }

pub returns : goal.returns
returns c =
    let a = c.args in
    let t = shown-text a.file.now (length a.out.now) _ (sym c.check_file.ensures.value ∙ c.in_ok-m.was) (omega arith) c.put_lines.ensures in
    record { value = t.0; out_after = t.1; result_value = shown-told a.file.now (length a.out.now) t.0 }
