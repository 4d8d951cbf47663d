-- By the lowest bit.
use Rattle.std.proofs.Common.{◌≡◌, ◌%◌, get_or, arith, eq-eqb, ne_eqb}
use Rattle.lent_chip.specs.Layout.{FLAGS}
use Rattle.lent_chip.proofs.Holding.{reading-bit}
use Rattle.lent_chip.proofs.palstate.Goals as goal

pub returns-then-state-eq1 : goal.returns-then-state-eq1
returns-then-state-eq1 c =
    let bit : get_or c.args.state.now FLAGS 0 % 2 ≡ 1 = omega (arith, c.if-state-eq1.true) in
    rw (reading-bit _, eq-eqb _ _ bit)

pub returns-else-state-eq1 : goal.returns-else-state-eq1
returns-else-state-eq1 c = rw (reading-bit _, ne_eqb (get_or c.args.state.now FLAGS 0 % 2) 1 (λ e. c.if-state-eq1.false (omega (arith, e))))
