-- The register's byte, in the state before and in the state that is left.
use Rattle.std.proofs.Common.{sym, arith}
use Rattle.chip.specs.View.{view}
use Rattle.chip.proofs.DifferLaws.{received_differs}
use Rattle.chip.proofs.Chip.write_data.Goals as goal

pub returns-clause-changed_value : goal.returns-clause-changed_value
returns-clause-changed_value c =
    let a = c.args in
    rw (c.byte-before.ensures, c.byte-after.ensures, c.put-next.ensures) (sym (received_differs a.g (view a.self) a.i a.v (omega arith)))
