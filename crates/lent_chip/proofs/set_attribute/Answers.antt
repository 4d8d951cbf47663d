-- The register at what is kept of the index, then the turn.
use Rattle.std.proofs.Common.{sym, ap, ◌∙◌, rules}
use Rattle.chip_registers.specs.Groups.{group_at}
use Rattle.chip_registers.specs.Indexes.{index_kept}
use Rattle.chip_registers.specs.declared.Group.TheVariants.{Ar}
use Rattle.lent_chip.proofs.Holding.{attribute_byte}
use Rattle.lent_chip.proofs.Words.{then_set}
use Rattle.lent_chip.proofs.set_attribute.Goals as goal

pub put_at-word-requires : goal.put_at-word-requires
unfolding group_at
put_at-word-requires c = rw (c.under_lock-left.ensures, c.locked.ensures)

pub returns : goal.returns
unfolding group_at
returns c =
    let s = c.args in
    then_set s.v c.put_at-word.ensures c.set_turn.ensures (c.index_kept-i.ensures ∙ ap (index_kept Ar) (sym (attribute_byte s.state.now)))
