-- MSR and PALMASK are one register each; AR is behind the last arm: a number that is none of the others.
use native.Mathlib.Omega.{arith}
use mathlib.Core.Path.{◌≡◌}
use borrow.Author.Tests.{ne_eqb}
use Rattle.chip_registers.specs.Groups.{group_at, row_of}
use Rattle.chip_registers.specs.declared.Group.TheVariants.{Ar}
use Rattle.chip_masks.specs.Table.{standing_of}
use Rattle.chip_masks.proofs.LineLaws.{writable_line, standing-line}
use Rattle.chip_masks.proofs.entry_at.Goals as goal

pub returns-in-6-clause-writable_value : goal.returns-in-6-clause-writable_value
unfolding group_at row_of
returns-in-6-clause-writable_value c = rw c.in-6.is

pub returns-in-6-clause-standing_value : goal.returns-in-6-clause-standing_value
unfolding group_at standing_of
returns-in-6-clause-standing_value c = rw c.in-6.is

pub returns-in-7-clause-writable_value : goal.returns-in-7-clause-writable_value
unfolding group_at row_of
returns-in-7-clause-writable_value c = rw c.in-7.is

pub returns-in-7-clause-standing_value : goal.returns-in-7-clause-standing_value
unfolding group_at standing_of
returns-in-7-clause-standing_value c = rw c.in-7.is

pub returns-in_default-clause-standing_value : goal.returns-in_default-clause-standing_value
unfolding group_at
returns-in_default-clause-standing_value c =
    let ((((((((_, k0), k1), k2), k3), k4), k5), k6), k7) = c.in_default.in_default-own.rest in
    let ar : group_at c.args.n ≡ Ar = simp ne_eqb in
    rw (c.entry_of-in_default.ensures.standing_value, c.ar.ensures.standing_bytes, ar) (standing-line _ _ (omega arith))

pub returns-in_default-clause-writable_value : goal.returns-in_default-clause-writable_value
unfolding group_at
returns-in_default-clause-writable_value c =
    let ((((((((_, k0), k1), k2), k3), k4), k5), k6), k7) = c.in_default.in_default-own.rest in
    let ar : group_at c.args.n ≡ Ar = simp ne_eqb in
    rw (c.entry_of-in_default.ensures.writable_value, c.ar.ensures.writable_bits, ar) (writable_line _ _ (omega arith))
