-- One store, at the place where the register stands; the mask is the table's, as the lock leaves it. What is told is the byte
-- there, as the table shows it, before and after.
use Rattle.std.proofs.Common.{ℕ, ◌/◌, ◌%◌, ◌<◌, cond, eqb, length, get_or, sym, ap, ◌∙◌, arith, get_or-set_same, rules}
use Rattle.chip_registers.specs.Groups.{group_at}
use Rattle.chip_registers.specs.WriteRule.{writable_now}
use Rattle.chip_registers.proofs.TableLaws.{byte-rows}
use Rattle.chip_masks.specs.Table.{standing_of}
use Rattle.chip.specs.State.{named}
use Rattle.chip.specs.Names.{locked}
use Rattle.lent_chip.specs.Layout.{view, place_of}
use Rattle.lent_chip.proofs.Holding.{open_bits, then_received}
use Rattle.lent_chip.proofs.Stores.{get_reg}
use Rattle.lent_chip.proofs.Words.{then_told}
use Rattle.lent_chip.proofs.put_at.Goals as goal

pub returns : goal.returns
unfolding writable_now
returns c =
    let a = c.args in
    let g = group_at a.n in
    let l = a.state.now in
    let at = c.place_from-at.ensures.0 in
    let stands = c.entry_at-e.ensures.standing_value in
    let below : place_of g a.i < length l = omega (arith, at, c.place_from-at.ensures.1, c.told-state) in
    let old : get_or l (place_of g a.i) 0 < 256 = search rules in
    then_told g a.i a.v (eqb (c.entry_at-e.result.standing / 128 % 2) 1) (get_or l c.place_from-at.result 0) c.write-new.result (omega arith)
    (rw (c.write-new.ensures, at)
    (then_received l a.i a.v _ c.told-state (omega arith) g old
    (rw (c.entry_at-e.ensures.writable_value, c.requires) (open_bits g (locked g (named (view l))) a.i _ (byte-rows g a.i).0))))
    c.told.ensures
    (rw at old) (omega arith)
    (rw (at, stands) (sym (get_reg g l a.i (omega arith))))
    (rw (at, stands)
    (ap (λ (x : ℕ). cond (eqb (standing_of g a.i / 128 % 2) 1) x 0) (sym (get_or-set_same l (place_of g a.i) _ 0 below))
    ∙ sym (get_reg g _ a.i (omega arith))))
