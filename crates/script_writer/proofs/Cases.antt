-- Document 01's set-up 13, by computation over the definitions that the contracts cite: "One block, SET XR60
-- 43h: the check is B89Fh."
use mathlib.Core.Path.{◌≡◌, refl}
use mathlib.Core.List.{List}
use Prim.Native.Nat.{ℕ}
use Rattle.lists.specs.Scan.{first_not, every}
use Rattle.lists.specs.Tab.{tab}
use Rattle.chip_registers.specs.Extension.{xr_lines}
use Rattle.chip_registers.specs.Groups.{group_at, row_of}
use Rattle.chip_registers.specs.Indexes.{fits}
use Rattle.script_steps.specs.Step.{names, legal, idle, judged, bytes_of, shaped, step_of}
use Rattle.script_steps.specs.declared.Step.TheVariants.{Set}
use Rattle.script.specs.Block.{word, word_sum, content_legal, block_legal}
use Rattle.script.specs.File.{step_count, steps_checked, checked}
use Rattle.script.specs.Reader.{next_of}
use Rattle.script_writer.specs.Write.{front, blocks_to, file_of, written}
use Rattle.std.specs.Prelude.{Ok, Some}

-- group 3 is XR
abbrev pub list_13 : List ℕ
list_13 = bytes_of (Set 3 0x60 0x43)

pub case_13_check : word (file_of list_13) 510 ≡ 0xB89F
unfolding bytes_of blocks_to front tab word_sum
case_13_check = refl

pub case_13-written : written list_13 512 ≡ Ok 1
unfolding written steps_checked first_not step_of shaped judged names legal fits idle group_at row_of xr_lines bytes_of
case_13-written = refl

pub case_13-checked : checked (file_of list_13) ≡ Ok 1
unfolding checked steps_checked block_legal content_legal first_not every step_count step_of shaped judged names legal fits idle group_at row_of xr_lines bytes_of blocks_to front tab word_sum
case_13-checked = refl

pub case_13-read : next_of (file_of list_13) 0 ≡ Ok (Some (Set 3 0x60 0x43))
unfolding next_of step_count step_of shaped judged names legal fits idle group_at row_of xr_lines bytes_of blocks_to front tab word_sum
case_13-read = refl
