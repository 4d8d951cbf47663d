-- The line that is reported, or what the writer answers, by its number.
use mathlib.Core.Path.{sym, ap, ◌∙◌}
use Rattle.std.proofs.lemmas.Result.{err_from_is_err_and}
use Rattle.text_to_script.specs.Compose.{of_composed}
use Rattle.text_to_script.proofs.Numbers.{composed-number}
use Rattle.text_to_script.proofs.compose.Goals as goal

pub returns-in_err-n-clause-result_value : goal.returns-in_err-n-clause-result_value
returns-in_err-n-clause-result_value c =
    let p = err_from_is_err_and c.from_residual.result c.from_residual.ensures.1 in
    rw (p.1, p.2) (ap of_composed (sym (c.in_err-n.ensures _)) ∙ composed-number _ _)

pub returns-clause-result_value : goal.returns-clause-result_value
returns-clause-result_value c = ap of_composed (c.finish.ensures.value ∙ sym (c.in_ok-n.ensures.answer _)) ∙ composed-number _ _
