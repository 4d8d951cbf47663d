-- By the number of the group.
use Rattle.std.proofs.Common.{ℕ, ◌<◌, arith, ne_eqb}
use Rattle.chip_registers.specs.Groups.{group_at, table_at}
use Rattle.chip_registers.specs.CrtController.{cr_lines}
use Rattle.chip_registers.specs.Sequencer.{sr_lines}
use Rattle.chip_registers.specs.Graphics.{gr_lines}
use Rattle.chip_registers.specs.Extension.{xr_lines}
use Rattle.chip_registers.specs.FlatPanel.{fr_lines}
use Rattle.chip_registers.specs.Multimedia.{mr_lines}
use Rattle.chip_registers.specs.Row.{lines_of, before}
use Rattle.lent_chip.specs.Layout.{base_of}
use Rattle.lent_chip.proofs.base.Goals as goal

-- CR, SR, GR, XR, FR, MR, MSR, PALMASK, AR
pub returns-in-0 : goal.returns-in-0
unfolding group_at base_of before lines_of table_at cr_lines sr_lines gr_lines xr_lines fr_lines mr_lines
returns-in-0 c = (rw c.in-0.is, omega arith)

pub returns-in-1 : goal.returns-in-1
unfolding group_at base_of before lines_of table_at cr_lines sr_lines gr_lines xr_lines fr_lines mr_lines
returns-in-1 c = (rw c.in-1.is, omega arith)

pub returns-in-2 : goal.returns-in-2
unfolding group_at base_of before lines_of table_at cr_lines sr_lines gr_lines xr_lines fr_lines mr_lines
returns-in-2 c = (rw c.in-2.is, omega arith)

pub returns-in-3 : goal.returns-in-3
unfolding group_at base_of before lines_of table_at cr_lines sr_lines gr_lines xr_lines fr_lines mr_lines
returns-in-3 c = (rw c.in-3.is, omega arith)

pub returns-in-4 : goal.returns-in-4
unfolding group_at base_of before lines_of table_at cr_lines sr_lines gr_lines xr_lines fr_lines mr_lines
returns-in-4 c = (rw c.in-4.is, omega arith)

pub returns-in-5 : goal.returns-in-5
unfolding group_at base_of before lines_of table_at cr_lines sr_lines gr_lines xr_lines fr_lines mr_lines
returns-in-5 c = (rw c.in-5.is, omega arith)

pub returns-in-6 : goal.returns-in-6
unfolding group_at base_of before lines_of table_at cr_lines sr_lines gr_lines xr_lines fr_lines mr_lines
returns-in-6 c = (rw c.in-6.is, omega arith)

pub returns-in-7 : goal.returns-in-7
unfolding group_at base_of before lines_of table_at cr_lines sr_lines gr_lines xr_lines fr_lines mr_lines
returns-in-7 c = (rw c.in-7.is, omega arith)

pub returns-in_default : goal.returns-in_default
unfolding group_at base_of before lines_of table_at cr_lines sr_lines gr_lines xr_lines fr_lines mr_lines
returns-in_default c =
    let n = c.args.n in
    let past : 7 < n = omega arith in
    let un = λ (k : ℕ) (h : k < 8). ne_eqb n k (omega arith) in
    (rw (un 0 (omega arith), un 1 (omega arith), un 2 (omega arith), un 3 (omega arith), un 4 (omega arith), un 5 (omega arith), un 6 (omega arith), un 7 (omega arith)), omega arith)
