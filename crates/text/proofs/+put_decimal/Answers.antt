-- No place, one digit, and the digits before the last.
use Rattle.std.proofs.Common.{◌-◌, ◌/◌, arith}
use Rattle.lists.proofs.Put.{added_none, added_append}
use Rattle.text.proofs.DigitLaws.{decimal-none, decimal_small, decimal-more, decimal_most}
use Rattle.text.proofs.+put_decimal.Goals as goal

pub returns-then-places-eq0 : goal.returns-then-places-eq0
returns-then-places-eq0 t c = rw (c.if-places-eq0.true, decimal-none) (added_none c.args.out.now c.args.at)

pub returns-then-n-lt10 : goal.returns-then-n-lt10
returns-then-n-lt10 t c = rw (decimal_small _ _ c.if-places-eq0.false c.if-n-lt10.true) c.copy.ensures

pub copy-requires-2 : goal.copy-requires-2
copy-requires-2 t c = omega (arith, decimal_most (c.args.places - 1) (c.args.n / 10))

pub returns : goal.returns
returns t c =
    rw (decimal-more _ _ c.if-places-eq0.false c.if-n-lt10.false)
    (added_append c.put_decimal-next.ensures c.copy-2.ensures (omega (arith, decimal_most (c.args.places - 1) (c.args.n / 10))))
