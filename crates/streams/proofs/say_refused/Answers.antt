-- A long name, and the line without it.
use native.Mathlib.Omega.{arith}
use Rattle.streams.proofs.Complaints.{name_first, added_front}
use Rattle.streams.proofs.say_refused.Goals as goal

pub returns-then-name-gt32-clause-said : goal.returns-then-name-gt32-clause-said
returns-then-name-gt32-clause-said g c ok =
    let line = added_front (c.complain-n.ensures.here (omega arith)) in
    rw (name_first, ← line) (c.say.ensures ok)
