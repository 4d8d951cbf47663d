-- Document 01's set-up 13, one block with SET XR60 43h, as text: nothing stands behind the write of the index, and XR60 with 00h
-- and 43h behind that of the data. By the laws, since whether something differs is a look at every register.
use mathlib.Core.Bool.{true}
use mathlib.Core.Path.{◌≡◌, refl, ap, ◌∙◌}
use mathlib.Core.List.{List, [], ◌∷◌}
use native.Mathlib.Omega.{arith}
use Rattle.lists.specs.Tab.{tab}
use Rattle.lists.specs.Scan.{first_not, every}
use Rattle.chip_registers.specs.Extension.{xr_lines}
use Rattle.chip_registers.specs.Groups.{group_at, row_of}
use Rattle.chip_registers.specs.Indexes.{fits, index_kept}
use Rattle.chip_registers.specs.WriteRule.{locked_by, writable_now, written}
use Rattle.chip_registers.specs.declared.Group.TheVariants.{Xr}
use Rattle.chip_ports.specs.Ports.{ports, target}
use Rattle.chip_ports.specs.declared.Target.TheVariants.{Index, Data}
use Rattle.chip.specs.State.{Chip, named, with_indexes, with_index}
use Rattle.chip.specs.Names.{locked, received, picks3_dx}
use Rattle.chip.specs.Access.{Wrote, untold, write_to, port_written}
use Rattle.chip.specs.Reset.{reset_byte, reset}
use Rattle.chip.proofs.AccessLaws.{write_open}
use Rattle.script_steps.specs.Step.{names, legal, idle, judged, shaped, step_of}
use Rattle.script.specs.Block.{word_sum, content_legal, block_legal}
use Rattle.script.specs.File.{step_count, steps_checked, checked}
use Rattle.script.specs.Reader.{next_of}
use Rattle.script_commands.specs.Command.{bytes_of_all}
use Rattle.script_commands.specs.Expansion.{ways, expanded, commands_of}
use Rattle.script_commands.specs.Translation.{commands_to, steps_to}
use Rattle.script_commands.specs.declared.Command.{Command}
use Rattle.script_commands.specs.declared.Command.TheVariants.{Out}
use Rattle.chip_run.specs.Run.{done, one, reads}
use Rattle.chip_run.proofs.RunLaws.{knowns, reads_bytes}
use Rattle.chip_play.specs.Played.{fresh}
use Rattle.chip_play.proofs.Playing.{fresh_open}
use Rattle.text.specs.Ascii.{ascii}
use Rattle.text_steps.specs.Written.{letter, name_text}
use Rattle.text_changes.specs.Changes.{register_line}
use Rattle.text_listing.proofs.Cases.{file_13}
use Rattle.text_effects.specs.Effects.{behind, effects_of, text}
use Rattle.text_effects.proofs.EffectLaws.{data_behind, index_behind_not}
use Rattle.std.specs.Prelude.{Ok}

-- the file's two commands
commands_13 : commands_to file_13 (step_count file_13) ≡ Out 0x3D6 0x60 ∷ Out 0x3D7 0x43 ∷ []
unfolding checked steps_checked block_legal content_legal word_sum first_not every step_count step_of shaped judged names legal fits idle group_at row_of xr_lines next_of steps_to commands_of expanded ways
commands_13 = refl

-- the ports lead to XR's index and to its data
to_index : target (picks3_dx (named fresh)) true 0x3D6 ≡ Index Xr
unfolding target ports picks3_dx reset reset_byte
to_index = refl

to_data : target (picks3_dx (named fresh)) true 0x3D7 ≡ Data Xr
unfolding target ports picks3_dx reset reset_byte
to_data = refl

-- the state between the two
abbrev aimed : Chip
aimed = with_indexes fresh (with_index Xr fresh.indexes 0x60)

first-wrote : port_written fresh 0x3D6 0x60 ≡ untold (Ok tt) aimed
first-wrote = write_open fresh 0x3D6 fresh_open 0x60 ∙ ap (λ t. write_to t fresh 0x60) to_index

second-wrote : port_written aimed 0x3D7 0x43 ≡ write_to (Data Xr) aimed 0x43
second-wrote = write_open aimed 0x3D7 fresh_open 0x43 ∙ ap (λ t. write_to t aimed 0x43) to_data

-- XR60 is 00h after the reset, and takes 43h
before-second : (write_to (Data Xr) aimed 0x43).before ≡ 0x00
unfolding index_kept reset tab reset_byte row_of xr_lines
before-second = refl

after-second : (write_to (Data Xr) aimed 0x43).after ≡ 0x43
unfolding index_kept reset tab reset_byte received locked locked_by writable_now written row_of xr_lines
after-second = refl

-- what stands behind the second
second-behind : behind aimed (port_written aimed 0x3D7 0x43).chip ≡ ascii "   XR60 00 43\n"
unfolding index_kept register_line name_text letter
second-behind =
    let b : (port_written aimed 0x3D7 0x43).before ≡ 0x00 = ap (λ (w : Wrote). w.before) second-wrote ∙ before-second in
    let a : (port_written aimed 0x3D7 0x43).after ≡ 0x43 = ap (λ (w : Wrote). w.after) second-wrote ∙ after-second in
    data_behind aimed 0x3D7 0x43 fresh_open Xr to_data (λ e. omega arith) ∙ rw (b, a) refl

-- the two on a chip after a reset
two_13 : effects_of fresh 0 (knowns (Out 0x3D6 0x60 ∷ Out 0x3D7 0x43 ∷ [])) ≡ ascii "OUT 3D6 60\nOUT 3D7 43   XR60 00 43\n"
unfolding effects_of one done
two_13 = rw (index_behind_not fresh 0x3D6 0x60 fresh_open Xr to_index, first-wrote, second-behind) refl

pub case_13 : text file_13 ≡ ascii "OUT 3D6 60\nOUT 3D7 43   XR60 00 43\n"
case_13 =
    ap (effects_of fresh 0) (ap (λ (cs : List Command). reads (bytes_of_all cs)) commands_13 ∙ reads_bytes (Out 0x3D6 0x60 ∷ Out 0x3D7 0x43 ∷ [])) ∙ two_13
