-- One line a target: what the callee did there.
use Rattle.std.proofs.Common.{inl, inr, sym, refl, ap, ◌∙◌}
use Rattle.chip.specs.Access.{untold}
use Rattle.chip.specs.View.{view}
use Rattle.chip.proofs.ViewLaws.{loading_shown}
use Rattle.chip.proofs.DifferLaws.{quiet, unmoved}
use Rattle.std.specs.Prelude.{Ok}
use Rattle.chip.proofs.Chip.write_to.Goals as goal

pub returns-in-Index-clause-counted : goal.returns-in-Index-clause-counted
returns-in-Index-clause-counted c = rw c.in-Index.is (quiet (view c.args.self.now) c.untold.ensures.0 c.untold.ensures.1 c.with_index.ensures refl).1

pub returns-in-ReadIndex-clause-shown : goal.returns-in-ReadIndex-clause-shown
returns-in-ReadIndex-clause-shown c =
    rw c.in-ReadIndex.is (c.untold-in-ReadIndex.ensures.0 ∙ ap (untold (Ok tt)) (c.with_loading.ensures ∙ rw (c.aim.ensures, loading_shown _)))

pub returns-in-ReadIndex-clause-counted : goal.returns-in-ReadIndex-clause-counted
returns-in-ReadIndex-clause-counted c = rw c.in-ReadIndex.is (c.untold-in-ReadIndex.ensures.1 ∙ sym (unmoved (view c.args.self.now) _ refl))

pub returns-in-WriteIndex-clause-shown : goal.returns-in-WriteIndex-clause-shown
returns-in-WriteIndex-clause-shown c =
    rw c.in-WriteIndex.is (c.untold-in-WriteIndex.ensures.0 ∙ ap (untold (Ok tt)) (c.with_loading-in-WriteIndex.ensures ∙ rw (c.aim-in-WriteIndex.ensures, loading_shown _)))

pub returns-in-WriteIndex-clause-counted : goal.returns-in-WriteIndex-clause-counted
returns-in-WriteIndex-clause-counted c = rw c.in-WriteIndex.is (c.untold-in-WriteIndex.ensures.1 ∙ sym (unmoved (view c.args.self.now) _ refl))

pub returns-in-Status-clause-counted : goal.returns-in-Status-clause-counted
returns-in-Status-clause-counted c =
    let same = sym (unmoved (view c.args.self.now) _ refl) in
    elim c.in-Status.is [
      | inl e ↦ rw e (c.untold-in-Status.ensures.1 ∙ same)
      | inr e ↦ rw e (c.untold-in-Status.ensures.1 ∙ same)
    ]

pub returns-in-NotPicked-clause-counted : goal.returns-in-NotPicked-clause-counted
returns-in-NotPicked-clause-counted c = rw c.in-NotPicked.is (quiet (view c.args.self.now) c.untold-in-NotPicked.ensures.0 c.untold-in-NotPicked.ensures.1 refl refl).1
