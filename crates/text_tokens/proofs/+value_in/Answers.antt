-- No word, no place, no digit at the end, and the digits before the last.
use Rattle.std.proofs.Common.{ℕ, ◌+◌, ◌-◌, ◌*◌, ◌/◌, ◌%◌, Bool, true, false, cond, ◌≡◌, Option, Some, None, sym, ap, ◌∙◌}
use Rattle.std.specs.Option.{option_map}
use borrow.Author.Tests.{lt-ltb, le-ltb}
use Rattle.text_tokens.specs.Hex.{all_digits}
use Rattle.text_tokens.proofs.HexLaws.{value-zero, value-more, digits_zero, digits_none, digits_more}
use Rattle.text_tokens.proofs.+value_in.Goals as goal

-- what is made of the digits before the last, where they are digits
of_front : (f : ℕ → ℕ) (d : Bool) (v : ℕ) {r s : Option ℕ} → r ≡ s → r ≡ cond d (Some v) None → option_map f s ≡ cond d (Some (f v)) None
of_front f true v e k = ap (option_map f) (sym e ∙ k)
of_front f false v e k = ap (option_map f) (sym e ∙ k)

abbrev more : ℕ → ℕ → ℕ
more last front = (16 * front + last) % 4294967296

pub returns-then-word-eq0 : goal.returns-then-word-eq0
returns-then-word-eq0 t c = rw (c.if-word-eq0.true, value-zero, digits_zero)

pub returns-then-n-eq0 : goal.returns-then-n-eq0
returns-then-n-eq0 t c = rw (c.if-n-eq0.true, digits_none _ c.if-word-eq0.false)

pub returns-then-last-ge16 : goal.returns-then-last-ge16
returns-then-last-ge16 t c = rw (digits_more _ _ c.if-n-eq0.false c.if-word-eq0.false, ← c.digit_value-last.ensures, le-ltb _ _ c.if-last-ge16.true)

pub returns-in_err-front : goal.returns-in_err-front
returns-in_err-front t c =
    let a = c.args in
    rw (digits_more _ _ c.if-n-eq0.false c.if-word-eq0.false, value-more _ _ c.if-n-eq0.false c.if-word-eq0.false, ← c.digit_value-last.ensures, lt-ltb _ _ c.if-last-ge16.false)
    (c.from_residual.ensures ∙ of_front (more c.digit_value-last.result) (all_digits (a.n - 1) (a.word / 256)) _ c.in_err-front.was c.value_in.ensures)

pub returns : goal.returns
returns t c =
    let a = c.args in
    rw (digits_more _ _ c.if-n-eq0.false c.if-word-eq0.false, value-more _ _ c.if-n-eq0.false c.if-word-eq0.false, ← c.digit_value-last.ensures, lt-ltb _ _ c.if-last-ge16.false)
    (of_front (more c.digit_value-last.result) (all_digits (a.n - 1) (a.word / 256)) _ c.in_ok-front.was c.value_in.ensures)
