-- Closed ports, and where the port leads.
use Rattle.lent_chip.proofs.Reached.{read_closed, read-reached}
use Rattle.std.proofs.Common.{not, ap, rules}
use Rattle.lent_chip.proofs.access.read_in.Goals as goal

pub returns-then-not-is_open : goal.returns-then-not-is_open
returns-then-not-is_open c = read_closed c.is_open.ensures c.told-state (ap not c.if-not-is_open.true) _

pub returns : goal.returns
returns c = read-reached c.is_open.ensures (ap not c.if-not-is_open.false) c.picks_3dx.ensures _ c.leads_to-t.ensures c.read_from.ensures
