-- `Position::turn` meets its contract: a refusal and the end leave the position where it is, and a step handed out moves it on.
use Rattle.std.specs.Prelude.{◌≡◌, Ok, Some}
use mathlib.Core.Path.{sym, ap, ◌∙◌}
use Rattle.script.specs.Reader.{next_of}
use native.Mathlib.Omega.{arith}
use Rattle.script.proofs.Reading.{found_before}
use Rattle.script.proofs.Counting.{count_most}
use Rattle.script.proofs.Position.turn.Goals as goal

-- a step handed out is one of the steps that the blocks say they have
pub overflow_add-at : goal.overflow_add-at
overflow_add-at c =
    let f = c.args.file.now in
    let s = c.in-Ok-Some in
    let some : s.field-0 ≡ Some s.field-0-0 = rw s.is at s.field-0-is in
    let ok : c.next_at-next.result ≡ Ok s.field-0 = s.is in
    let e : next_of f c.args.self.at ≡ Ok (Some s.field-0-0) = sym c.next_at-next.ensures.0 ∙ ok ∙ ap Ok some in
    omega (arith, found_before f c.args.self.at _ e, count_most f (λ i. omega (arith, c.type_inv.file i)))
