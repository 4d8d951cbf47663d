-- Closed ports, and where the port leads.
use Rattle.lent_chip.proofs.Reached.{write_closed, write_reached}
use Rattle.std.proofs.Common.{not, ap, rules}
use Rattle.lent_chip.proofs.access.write_port.Goals as goal

pub returns-then-not-is_open : goal.returns-then-not-is_open
returns-then-not-is_open c = write_closed c.is_open.ensures c.told-state (ap not c.if-not-is_open.true) _ _

pub returns : goal.returns
returns c = write_reached c.is_open.ensures (ap not c.if-not-is_open.false) c.picks_3dx.ensures _ _ c.leads_to-t.ensures c.write_to.ensures
