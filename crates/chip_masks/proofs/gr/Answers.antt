-- The match is the table: each line is computed from the definitions, and none that follows has a register.
use Prim.Native.Nat.{◌/◌}
use native.Mathlib.Omega.{arith}
use mathlib.Core.Path.{refl, sym}
use lib.Dec.{eqb}
use borrow.Author.Tests.{eqb-true}
use Rattle.lists.specs.Scan.{every}
use Rattle.lists.proofs.Scan.{every-at}
use Rattle.chip_registers.specs.declared.Group.TheVariants.{Gr}
use Rattle.chip_registers.specs.Groups.{table_at, row_of, writable_of}
use Rattle.chip_registers.specs.CrtController.{cr_lines}
use Rattle.chip_registers.specs.Sequencer.{sr_lines}
use Rattle.chip_registers.specs.Graphics.{gr_lines}
use Rattle.chip_registers.specs.Extension.{xr_lines}
use Rattle.chip_registers.specs.FlatPanel.{fr_lines}
use Rattle.chip_registers.specs.Multimedia.{mr_lines}
use Rattle.chip_registers.specs.Attribute.{ar_lines}
use Rattle.chip_registers.specs.Row.{lines_of, before, slot_of}
use Rattle.chip_masks.specs.Table.{packed, line_of, standing_of}
use Rattle.chip_masks.proofs.LineLaws.{passed}
use Rattle.chip_masks.proofs.gr.Goals as goal

pub returns-in-0-clause-writable_bits : goal.returns-in-0-clause-writable_bits
unfolding every line_of packed row_of gr_lines
returns-in-0-clause-writable_bits c = rw c.in-0.is

pub returns-in-0-clause-standing_bytes : goal.returns-in-0-clause-standing_bytes
unfolding every line_of packed standing_of slot_of before lines_of table_at cr_lines sr_lines gr_lines xr_lines fr_lines mr_lines ar_lines
returns-in-0-clause-standing_bytes c = rw c.in-0.is

pub returns-in-1-clause-writable_bits : goal.returns-in-1-clause-writable_bits
unfolding every line_of packed row_of gr_lines
returns-in-1-clause-writable_bits c = rw c.in-1.is

pub returns-in-1-clause-standing_bytes : goal.returns-in-1-clause-standing_bytes
unfolding every line_of packed standing_of slot_of before lines_of table_at cr_lines sr_lines gr_lines xr_lines fr_lines mr_lines ar_lines
returns-in-1-clause-standing_bytes c = rw c.in-1.is

pub returns-in_default-clause-writable_bits : goal.returns-in_default-clause-writable_bits
unfolding every line_of packed row_of gr_lines
returns-in_default-clause-writable_bits c = let past = passed _ 2 c.in_default.in_default-own.rest in sym (eqb-true _ 0 (every-at (λ k. eqb (line_of (λ g i. writable_of g i) Gr k) 0) 2 30 refl (c.args.i / 8) past (omega arith)))

pub returns-in_default-clause-standing_bytes : goal.returns-in_default-clause-standing_bytes
unfolding every line_of packed standing_of slot_of before lines_of table_at cr_lines sr_lines gr_lines xr_lines fr_lines mr_lines ar_lines
returns-in_default-clause-standing_bytes c = let past = passed _ 2 c.in_default.in_default-own.rest in sym (eqb-true _ 0 (every-at (λ k. eqb (line_of standing_of Gr k) 0) 2 30 refl (c.args.i / 8) past (omega arith)))
