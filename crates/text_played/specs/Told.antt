-- A script played, as text: the file is played on a chip after a reset with pin bytes FFh and FFh by the entry that carries
-- demand 3 (crate `chip_play`). The text says what then differs from the reset (`changed` of the crate text_changes), and in
-- its last line how many commands there were: `commands 2`. The file's refusals come first (document 01, Numbers returned: 8,
-- 6, 7; document 02, P2: 11; 9 where the commands find too little room), then 9 where the text finds less than 38,430 bytes,
-- the most that it can have. A refusal changes no byte of the output, and bytes after the text keep their value. What the
-- text says by the steps alone is a law: proofs/ByName.
use Rattle.std.specs.Prelude.{ℕ, cond, List, ◌++◌, ltb, length, Result, Ok, Err}
use Rattle.lists.specs.Put.{put}
use Rattle.lists.specs.Numbers.{Returned, returned}
use Rattle.text.specs.Digits.{decimal}
use Rattle.chip.specs.State.{Named, named}
use Rattle.script.specs.Numbers.{of_refusal}
use Rattle.script.specs.declared.Refusal.TheVariants.{Room}
use Rattle.chip_play.specs.Played.{Performance, fresh, played}
use Rattle.text_changes.specs.Changes.{changed}
use Rattle.text.specs.Ascii.{ascii}
use Rattle.chip_run.specs.declared.Tally.{Tally}
use Rattle.script.specs.declared.Refusal.{Refusal}

-- `commands 2`
unfoldable pub commands_line : ℕ → List ℕ
commands_line count = ascii "commands " ++ decimal count ++ ascii "\n"

-- what is said of a state after so many commands
unfoldable pub tale : Named → ℕ → List ℕ
tale after count = changed (named fresh) after ++ commands_line count

abbrev pub told_of : Result Tally Refusal → Named → ℕ → Result ℕ Refusal
told_of (Err why) after room = Err why
told_of (Ok t) after room = cond (ltb room 38430) (Err Room) (Ok (length (tale after t.count)))

abbrev pub told_by : Performance → ℕ → Result ℕ Refusal
told_by p room = told_of p.outcome (named p.chip) room

-- the answer: how many bytes of text there are, or the refusal; the commands have a buffer of so many bytes, the text one
-- of so many
unfoldable pub told : List ℕ → ℕ → ℕ → Result ℕ Refusal
told file work room = told_by (played fresh file work) room

-- what the lent output then holds
abbrev pub left_of : Result Tally Refusal → Named → List ℕ → List ℕ
left_of (Err why) after out = out
left_of (Ok t) after out = cond (ltb (length out) 38430) out (put out 0 (tale after t.count))

abbrev pub left_by : Performance → List ℕ → List ℕ
left_by p out = left_of p.outcome (named p.chip) out

unfoldable pub left : List ℕ → ℕ → List ℕ → List ℕ
left file work out = left_by (played fresh file work) out

-- document 01's number and value for each answer
abbrev pub of_told : Result ℕ Refusal → Returned
of_told (Ok n) = returned 0 n
of_told (Err why) = of_refusal why
