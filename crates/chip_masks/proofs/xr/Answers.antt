-- The table is tested line by line, computed from the definitions.
use Prim.Native.Nat.{◌/◌}
use native.Mathlib.Omega.{arith}
use mathlib.Core.Path.{refl}
use Rattle.lists.specs.Scan.{every}
use Rattle.chip_registers.specs.declared.Group.TheVariants.{Xr}
use Rattle.chip_registers.specs.Groups.{table_at, row_of, writable_of}
use Rattle.chip_registers.specs.CrtController.{cr_lines}
use Rattle.chip_registers.specs.Sequencer.{sr_lines}
use Rattle.chip_registers.specs.Graphics.{gr_lines}
use Rattle.chip_registers.specs.Extension.{xr_lines}
use Rattle.chip_registers.specs.FlatPanel.{fr_lines}
use Rattle.chip_registers.specs.Multimedia.{mr_lines}
use Rattle.chip_registers.specs.Attribute.{ar_lines}
use Rattle.chip_registers.specs.Row.{lines_of, before, slot_of}
use Rattle.chip_masks.specs.declared.TheConstants.{XR}
use Rattle.chip_masks.specs.declared.Line.{Line}
use Rattle.chip_masks.specs.Table.{packed, line_of, standing_of}
use Rattle.chip_masks.proofs.LineLaws.{table_at_line}
use Rattle.chip_masks.proofs.xr.Goals as goal

pub returns-clause-writable_bits : goal.returns-clause-writable_bits
unfolding every line_of packed row_of xr_lines
returns-clause-writable_bits c = table_at_line {A = Line} XR (λ l. l.0) (line_of (λ g i. writable_of g i) Xr) _ c.from.result (c.args.i / 8) refl c.from.ensures (omega arith)

pub returns-clause-standing_bytes : goal.returns-clause-standing_bytes
unfolding every line_of packed standing_of slot_of before lines_of table_at cr_lines sr_lines gr_lines xr_lines fr_lines mr_lines ar_lines
returns-clause-standing_bytes c = table_at_line {A = Line} XR (λ l. l.1) (line_of standing_of Xr) _ c.from.result (c.args.i / 8) refl c.from.ensures (omega arith)
