-- The byte of the table of places, counted from the group's first.
use Rattle.std.proofs.Common.{arith, ◌∙◌}
use Rattle.chip.proofs.Places.{beside-row, stands_nowhere, stands-there, place-within}
use Rattle.chip.proofs.place_of.Goals as goal

pub returns-then-e-lt128-clause-place : goal.returns-then-e-lt128-clause-place
returns-then-e-lt128-clause-place c = stands_nowhere _ _ (omega arith) (omega arith)

pub returns-in_err-first_of-clause-place : goal.returns-in_err-first_of-clause-place
returns-in_err-first_of-clause-place c = c.from_residual.ensures ∙ beside-row c.args.g c.args.i (omega arith) c.in_err-first_of.ensures.start

pub returns-clause-place : goal.returns-clause-place
returns-clause-place c =
    rw c.standing-e.ensures (stands-there c.args.g c.args.i (omega arith) c.in_ok-first_of.ensures.start (omega arith))

pub returns-clause-within : goal.returns-clause-within
returns-clause-within c =
    let place = stands-there c.args.g c.args.i (omega arith) c.in_ok-first_of.ensures.start (omega arith) in
    let within = place-within c.args.g c.args.i (omega arith) in
    rw c.standing-e.ensures (rw (← place) at within)
