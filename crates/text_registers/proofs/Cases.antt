-- Worked cases after a reset with both pin bytes FFh, by computation over the definition.
use mathlib.Core.Path.{◌≡◌, refl}
use Rattle.chip_registers.specs.Groups.{group_at, row_of}
use Rattle.chip_registers.specs.Sequencer.{sr_lines}
use Rattle.chip.specs.State.{named}
use Rattle.lists.specs.Tab.{tab}
use Rattle.chip.specs.Reset.{reset_byte, reset}
use Rattle.text.specs.Ascii.{ascii}
use Rattle.text_steps.specs.Written.{letter, name_text}
use Rattle.text_registers.specs.Line.{joined, across, line}
use Rattle.text_registers.specs.Text.{any_listed, line_at, paragraph}

-- one line
pub sr_after_reset : paragraph 1 (named (reset 0xFF 0xFF)) ≡ ascii "SR00 00 00 00 00 00 -- -- 00 -- -- -- -- -- -- -- --\n\n"
unfolding paragraph joined line_at any_listed line across name_text letter group_at row_of sr_lines reset tab reset_byte
sr_after_reset = refl

pub palmask_after_reset : paragraph 7 (named (reset 0xFF 0xFF)) ≡ ascii "PALMASK 00\n\n"
unfolding paragraph joined line_at any_listed line across name_text group_at row_of reset reset_byte
palmask_after_reset = refl
