-- Document 01's set-ups 12 and 13 and document 02's XR70 as listings, and a script whose third step sends no index in the short
-- list (document 02, P8), by computation over the definitions that the contracts cite.
use native.Mathlib.Omega.{arith}
use mathlib.Core.Bool.{false}
use mathlib.Core.Path.{◌≡◌, refl, ap, ◌∙◌}
use mathlib.Core.List.{List, [], ◌∷◌, ◌++◌}
use Prim.Native.Nat.{ℕ}
use lib.Dec.{eqb}
use lib.ListN.{replicate}
use Rattle.lists.specs.Tab.{tab}
use Rattle.lists.specs.Scan.{first_not, every}
use Rattle.chip_registers.specs.Extension.{xr_lines}
use Rattle.chip_registers.specs.Sequencer.{sr_lines}
use Rattle.chip_registers.specs.Groups.{group_at, row_of}
use Rattle.chip_registers.specs.Indexes.{fits}
use Rattle.script_steps.specs.Step.{names, legal, idle, judged, shaped, step_of}
use Rattle.script_steps.specs.declared.Step.{Step}
use Rattle.script_steps.specs.declared.Step.TheVariants.{Set, Field}
use Rattle.script.specs.Block.{word_sum, content_legal, block_legal}
use Rattle.script.specs.File.{step_count, steps_checked, checked}
use Rattle.script.specs.Reader.{next_of}
use Rattle.script_commands.specs.Expansion.{ways, expanded, commands_of}
use Rattle.script_commands.specs.Translation.{steps_to, translated}
use Rattle.script_short.specs.Short.{last_sent, shortened, short_translated}
use Rattle.text.specs.Ascii.{ascii}
use Rattle.text.specs.Digits.{decimal_in}
use Rattle.text_listing.specs.Line.{lines_of}
use Rattle.chip_registers.specs.WriteRule.{locked_by, writable_now, written}
use Rattle.chip_registers.specs.declared.Group.TheVariants.{Sr, Xr}
use Rattle.chip.specs.State.{Named, named}
use Rattle.chip.specs.Names.{register, locked, received}
use Rattle.chip.specs.Reset.{reset_byte, reset}
use Rattle.chip.proofs.DifferLaws.{received_same-stored}
use Rattle.chip_play.specs.ByName.{applied, steps_changing}
use Rattle.chip_play.specs.Played.{fresh, changing_of}
use Rattle.chip_play.proofs.Playing.{fresh_open}
use Rattle.chip_play.proofs.StepsChanging.{changing_script}
use Rattle.text_listing.specs.Text.{header, text, short_text}
use Rattle.std.specs.Prelude.{Ok}

-- "FIELD XR80, mask 80h, value 80h"
pub case_12 : lines_of (expanded (Field 3 0x80 0x80 0x80)) ≡ ascii "OUT 3D6 80\nIN 3D7\nMERGE 7F 80\nOUTA 3D7\n"
unfolding lines_of expanded ways
case_12 = refl

-- "One block, SET XR60 43h: the check is B89Fh."
abbrev pub file_13 : List ℕ
file_13 = (0 ∷ 0 ∷ 1 ∷ 1 ∷ 0 ∷ 0 ∷ 1 ∷ 3 ∷ 0x60 ∷ 0x43 ∷ 0 ∷ 0 ∷ []) ++ replicate 498 0 ++ (0x9F ∷ 0xB8 ∷ [])

case_13_by : text file_13 32256 ≡ header 1 2 (changing_of fresh file_13) ++ ascii "OUT 3D6 60\nOUT 3D7 43\n"
unfolding text translated checked steps_checked block_legal content_legal word_sum first_not every step_count step_of shaped judged names legal fits idle group_at row_of xr_lines next_of steps_to commands_of expanded ways lines_of decimal_in
case_13_by = refl

steps_13 : steps_to file_13 (step_count file_13) ≡ Set 3 0x60 0x43 ∷ []
unfolding checked steps_checked block_legal content_legal word_sum first_not every step_count step_of shaped judged names legal fits idle group_at row_of xr_lines next_of steps_to
steps_13 = refl

accepted_13 : checked file_13 ≡ Ok 1
unfolding checked steps_checked block_legal content_legal word_sum first_not every step_count step_of shaped judged names legal fits idle group_at row_of xr_lines next_of steps_to
accepted_13 = refl

-- XR60 is 00h after the reset, and takes 43h
changed_13 : eqb (register Xr (named fresh) 0x60) (register Xr (received Xr (named fresh) 0x60 0x43) 0x60) ≡ false
unfolding reset tab reset_byte received locked locked_by writable_now written row_of xr_lines
changed_13 = refl

once_13 : steps_changing (Set 3 0x60 0x43 ∷ []) (named fresh) ≡ 1
unfolding steps_changing applied group_at
once_13 = rw (received_same-stored Xr (named fresh) 0x60 0x43 (omega arith), changed_13) refl

pub case_13 : text file_13 32256 ≡ ascii "steps 1 commands 2\nchanging 1\nOUT 3D6 60\nOUT 3D7 43\n"
unfolding decimal_in
case_13 =
    case_13_by
    ∙ ap (λ (m : ℕ). header 1 2 m ++ ascii "OUT 3D6 60\nOUT 3D7 43\n")
    (changing_script file_13 1 accepted_13 fresh fresh_open ∙ ap (λ (ss : List Step). steps_changing ss (named fresh)) steps_13 ∙ once_13)

-- the same file with its check one off
pub case_13_damaged : text ((0 ∷ 0 ∷ 1 ∷ 1 ∷ 0 ∷ 0 ∷ 1 ∷ 3 ∷ 0x60 ∷ 0x43 ∷ 0 ∷ 0 ∷ []) ++ replicate 498 0 ++ (0xA0 ∷ 0xB8 ∷ [])) 32256
    ≡ ascii "refused 6\n"
unfolding text translated checked block_legal content_legal word_sum first_not every step_count step_of shaped names legal fits next_of steps_to commands_of expanded ways lines_of decimal_in
case_13_damaged = refl

-- the same with XR70 for XR60, as a volunteer typed (document 02, P2), and its check right
pub case_xr70 : text ((0 ∷ 0 ∷ 1 ∷ 1 ∷ 0 ∷ 0 ∷ 1 ∷ 3 ∷ 0x70 ∷ 0x43 ∷ 0 ∷ 0 ∷ []) ++ replicate 498 0 ++ (0x8F ∷ 0xB8 ∷ [])) 32256
    ≡ ascii "refused 11\n"
unfolding text translated checked steps_checked block_legal content_legal word_sum first_not every step_count step_of shaped judged names legal fits idle group_at row_of xr_lines next_of steps_to commands_of expanded ways lines_of decimal_in
case_xr70 = refl

-- ---- SET XR60 43h, SET SR01 FFh, SET XR60 42h: 3D6h is sent the index 60h once
abbrev pub file_again : List ℕ
file_again =
    (0 ∷ 0 ∷ 3 ∷ 1 ∷ 0 ∷ 0 ∷ 1 ∷ 3 ∷ 0x60 ∷ 0x43 ∷ 0 ∷ 0 ∷ 1 ∷ 1 ∷ 0x01 ∷ 0xFF ∷ 0 ∷ 0 ∷ 1 ∷ 3 ∷ 0x60 ∷ 0x42 ∷ 0 ∷ 0 ∷ [])
    ++ replicate 486 0 ++ (0x3A ∷ 0x73 ∷ [])

case_again_by : short_text file_again 32256 ≡ header 3 5 (changing_of fresh file_again) ++ ascii "OUT 3D6 60\nOUT 3D7 43\nOUT 3C4 01\nOUT 3C5 FF\nOUT 3D7 42\n"
unfolding short_text short_translated shortened last_sent checked steps_checked block_legal content_legal word_sum first_not every step_count step_of shaped judged names legal fits idle group_at row_of xr_lines sr_lines next_of steps_to commands_of expanded ways lines_of decimal_in
case_again_by = refl

accepted-again : checked file_again ≡ Ok 3
unfolding checked steps_checked block_legal content_legal word_sum first_not every step_count step_of shaped judged names legal fits idle group_at row_of xr_lines sr_lines next_of steps_to
accepted-again = refl

steps_again : steps_to file_again (step_count file_again) ≡ Set 3 0x60 0x43 ∷ Set 1 0x01 0xFF ∷ Set 3 0x60 0x42 ∷ []
unfolding checked steps_checked block_legal content_legal word_sum first_not every step_count step_of shaped judged names legal fits idle group_at row_of xr_lines sr_lines next_of steps_to
steps_again = refl

-- SR01 is 00h behind the first step and takes 3Dh, and XR60 is 43h behind the second and takes 42h
abbrev first-again : Named
first-again = received Xr (named fresh) 0x60 0x43

abbrev second-again : Named
second-again = received Sr first-again 0x01 0xFF

changed-second : eqb (register Sr first-again 0x01) (register Sr second-again 0x01) ≡ false
unfolding reset tab reset_byte received locked locked_by writable_now written row_of xr_lines sr_lines
changed-second = refl

changed_third : eqb (register Xr second-again 0x60) (register Xr (received Xr second-again 0x60 0x42) 0x60) ≡ false
unfolding reset tab reset_byte received locked locked_by writable_now written row_of xr_lines sr_lines
changed_third = refl

thrice_again : steps_changing (Set 3 0x60 0x43 ∷ Set 1 0x01 0xFF ∷ Set 3 0x60 0x42 ∷ []) (named fresh) ≡ 3
unfolding steps_changing applied group_at
thrice_again =
    rw (received_same-stored Xr (named fresh) 0x60 0x43 (omega arith), changed_13)
    (rw (received_same-stored Sr first-again 0x01 0xFF (omega arith), changed-second)
    (rw (received_same-stored Xr second-again 0x60 0x42 (omega arith), changed_third) refl))

pub case-again : short_text file_again 32256 ≡ ascii "steps 3 commands 5\nchanging 3\nOUT 3D6 60\nOUT 3D7 43\nOUT 3C4 01\nOUT 3C5 FF\nOUT 3D7 42\n"
unfolding decimal_in
case-again =
    case_again_by
    ∙ ap (λ (m : ℕ). header 3 5 m ++ ascii "OUT 3D6 60\nOUT 3D7 43\nOUT 3C4 01\nOUT 3C5 FF\nOUT 3D7 42\n")
    (changing_script file_again 3 accepted-again fresh fresh_open ∙ ap (λ (ss : List Step). steps_changing ss (named fresh)) steps_again ∙ thrice_again)
