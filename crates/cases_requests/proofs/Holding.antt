-- Every case of document 02's requests holds, computed from the definitions.
use mathlib.Core.Bool.{true}
use mathlib.Core.Path.{◌≡◌, refl}
use Rattle.chip_registers.specs.CrtController.{cr_lines}
use Rattle.chip_registers.specs.Attribute.{ar_lines}
use Rattle.chip_registers.specs.Extension.{xr_lines}
use Rattle.chip_registers.specs.Multimedia.{mr_lines}
use Rattle.chip_registers.specs.Sequencer.{sr_lines}
use Rattle.chip_registers.specs.Graphics.{gr_lines}
use Rattle.chip_registers.specs.Groups.{group_at, row_of}
use Rattle.chip_registers.specs.Indexes.{index_kept, fits}
use Rattle.chip_registers.specs.WriteRule.{locked_by, left_open, writable_now, written}
use Rattle.chip_ports.specs.Ports.{ports, target}
use Rattle.chip.specs.Names.{locked, received, ports_open, picks3_dx, eight_bit}
use Rattle.chip.specs.Palette.{coloured, loaded, shown}
use Rattle.chip.specs.Access.{port_written, port_read}
use Rattle.chip.specs.Differ.{same_colour}
use Rattle.chip.specs.Reset.{reset_byte, reset}
use Rattle.blit_raster.specs.Raster.{number, raster, uses_source, uses_pattern}
use Rattle.blit_frame.specs.Frame.{in_range, is_in_memory}
use Rattle.blit.specs.Transfer.{byte_done, in_turn, line_done, lines_done, transferred}
use Rattle.lists.specs.Scan.{first_not, every}
use Rattle.lists.specs.Tab.{tab}
use Rattle.script_steps.specs.Step.{names, legal, idle, judged, shaped, step_of, bytes_of}
use Rattle.script.specs.Block.{word_sum}
use Rattle.script.specs.File.{steps_checked}
use Rattle.script_writer.specs.Write.{front, blocks_to, written as fileWritten}
use Rattle.script_commands.specs.Command.{bytes_of_all}
use Rattle.script_commands.specs.Expansion.{ways, expanded}
use Rattle.cases.specs.Cases.{rows, all_hold}
use Rattle.cases.proofs.Quickly.{hold_quickly}
use Rattle.cases_requests.specs.Asked.{asked}

pub requests_hold : all_hold asked ≡ true
unfolding asked cr_lines sr_lines gr_lines xr_lines mr_lines ar_lines index_kept group_at row_of locked_by left_open writable_now written ports target locked received ports_open picks3_dx eight_bit coloured loaded shown port_written port_read reset_byte reset number raster uses_source uses_pattern byte_done in_turn line_done lines_done in_range is_in_memory transferred first_not every tab names legal fits idle judged shaped step_of bytes_of word_sum steps_checked front blocks_to fileWritten bytes_of_all ways expanded same_colour
requests_hold = hold_quickly (rows asked) refl
