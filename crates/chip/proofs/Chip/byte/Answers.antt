-- Where it stands in the row, or in a field of its own.
use Rattle.std.proofs.Common.{arith}
use Rattle.chip.proofs.Places.{read-there, read_nowhere, indexed-else, read-msr, read-palmask}
use Rattle.chip.proofs.Chip.byte.Goals as goal

pub returns-in-Some : goal.returns-in-Some
returns-in-Some c = read-there _ _ _ (omega arith) c.place_of.ensures.place c.in-Some.is

pub returns-in-Msr : goal.returns-in-Msr
returns-in-Msr c = rw c.in-Msr.is (read-msr _)

pub returns-in-Palmask : goal.returns-in-Palmask
returns-in-Palmask c = rw c.in-Palmask.is (read-palmask _)

pub returns-in_default-g : goal.returns-in_default-g
returns-in_default-g c =
    let row = indexed-else c.args.g c.in_default-g.not-Msr c.in_default-g.not-Palmask in
    read_nowhere _ _ _ (omega arith) c.place_of.ensures.place row c.in_default.is
