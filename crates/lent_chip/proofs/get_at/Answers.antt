-- The byte to which the table of places leads, as the table shows it.
use Rattle.std.proofs.Common.{sym, arith, rules}
use Rattle.chip_registers.specs.Groups.{group_at}
use Rattle.lent_chip.proofs.Stores.{get_reg}
use Rattle.lent_chip.proofs.get_at.Goals as goal

pub returns : goal.returns
returns c =
    let a = c.args in
    rw (c.shown_by.ensures, c.place_from-at.ensures.0, c.entry_at-e.ensures.standing_value) (sym (get_reg (group_at a.n) a.state.now a.i (omega arith)))
