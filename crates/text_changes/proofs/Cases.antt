-- Worked lines, by computation over the definition: the byte before stands before the byte after, and equal bytes have no line.
use mathlib.Core.Path.{◌≡◌, refl}
use mathlib.Core.List.{[]}
use Rattle.chip.specs.Palette.{rgb}
use Rattle.text.specs.Ascii.{ascii}
use Rattle.text_steps.specs.Written.{letter, name_text}
use Rattle.chip.specs.Differ.{same_colour}
use Rattle.text_changes.specs.Changes.{register_line, register_change, colour_line, colour_change}

pub xr60_line : register_change 3 0x60 0x00 0x43 ≡ ascii "XR60 00 43\n"
unfolding register_change register_line name_text letter
xr60_line = refl

pub msr_line : register_change 6 0x00 0x00 0x67 ≡ ascii "MSR 00 67\n"
unfolding register_change register_line name_text
msr_line = refl

pub same_byte_no_line : register_change 3 0x60 0x43 0x43 ≡ []
unfolding register_change
same_byte_no_line = refl

pub colour_line_lem : colour_change 2 (rgb 0x00 0x00 0x00) (rgb 0xFF 0xD0 0x00) ≡ ascii "COLOUR 02 000000 FFD000\n"
unfolding colour_change same_colour colour_line
colour_line_lem = refl
