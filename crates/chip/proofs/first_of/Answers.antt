-- By the group; the running counts are computed from the tables.
use Rattle.chip_registers.specs.Groups.{table_at}
use Rattle.chip_registers.specs.Row.{before, lines_of}
use Rattle.chip_registers.specs.CrtController.{cr_lines}
use Rattle.chip_registers.specs.Sequencer.{sr_lines}
use Rattle.chip_registers.specs.Graphics.{gr_lines}
use Rattle.chip_registers.specs.Extension.{xr_lines}
use Rattle.chip_registers.specs.FlatPanel.{fr_lines}
use Rattle.chip_registers.specs.Multimedia.{mr_lines}
use Rattle.chip.proofs.first_of.Goals as goal

pub returns-in-Cr-clause-start : goal.returns-in-Cr-clause-start
unfolding before lines_of table_at cr_lines sr_lines gr_lines xr_lines fr_lines mr_lines
returns-in-Cr-clause-start c = rw c.in-Cr.is

pub returns-in-Sr-clause-start : goal.returns-in-Sr-clause-start
unfolding before lines_of table_at cr_lines sr_lines gr_lines xr_lines fr_lines mr_lines
returns-in-Sr-clause-start c = rw c.in-Sr.is

pub returns-in-Gr-clause-start : goal.returns-in-Gr-clause-start
unfolding before lines_of table_at cr_lines sr_lines gr_lines xr_lines fr_lines mr_lines
returns-in-Gr-clause-start c = rw c.in-Gr.is

pub returns-in-Xr-clause-start : goal.returns-in-Xr-clause-start
unfolding before lines_of table_at cr_lines sr_lines gr_lines xr_lines fr_lines mr_lines
returns-in-Xr-clause-start c = rw c.in-Xr.is

pub returns-in-Fr-clause-start : goal.returns-in-Fr-clause-start
unfolding before lines_of table_at cr_lines sr_lines gr_lines xr_lines fr_lines mr_lines
returns-in-Fr-clause-start c = rw c.in-Fr.is

pub returns-in-Mr-clause-start : goal.returns-in-Mr-clause-start
unfolding before lines_of table_at cr_lines sr_lines gr_lines xr_lines fr_lines mr_lines
returns-in-Mr-clause-start c = rw c.in-Mr.is

pub returns-in-Ar-clause-start : goal.returns-in-Ar-clause-start
unfolding before lines_of table_at cr_lines sr_lines gr_lines xr_lines fr_lines mr_lines
returns-in-Ar-clause-start c = rw c.in-Ar.is
