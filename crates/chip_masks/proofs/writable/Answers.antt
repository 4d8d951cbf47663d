-- A group's number leads to the group.
use Rattle.chip_registers.proofs.TableLaws.{group_numbered}
use Rattle.chip_masks.proofs.writable.Goals as goal

pub returns : goal.returns
returns c = rw (c.entry_at.ensures.writable_value, c.number_of.ensures, group_numbered)
