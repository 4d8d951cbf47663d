-- A script's commands and what each of them did, as text: "which command altered anything" (document 02, P6). The file's commands
-- are run on a chip after a reset with pin bytes FFh and FFh. Each has a line: its words (the crate text_listing's), and behind
-- them, where a register or a colour differs after it, three spaces and what differs (`changed` of the crate text_changes):
-- `OUT 3D7 43   XR60 00 43`, and at the third byte of a colour `OUT 3C9 00   COLOUR 02 000000 FFD000`. Nothing stands behind a
-- command that changed nothing. The file's refusals come first (document 01, Numbers returned: 8, 6, 7; document 02, P2: 11; 9
-- where the commands find too little room), then 9 where the text finds less than 38,400 bytes and 38 for each command. A refusal
-- changes no byte of the output, and bytes after the text keep their value. That a line has at most 38 bytes, and that what
-- stands behind a data write is its register with the two bytes that the write hands back, are laws: proofs/EffectLaws.
use Rattle.std.specs.Prelude.{ℕ, ◌+◌, ◌*◌, cond, List, [], ◌∷◌, ◌++◌, ltb, length, Result, Option, Ok, Err, Some, None}
use Rattle.lists.specs.Put.{put}
use Rattle.lists.specs.Numbers.{Returned, returned}
use Rattle.chip.specs.State.{Chip, named}
use Rattle.chip.specs.Differ.{differ}
use Rattle.script.specs.File.{step_count}
use Rattle.script.specs.Numbers.{of_refusal}
use Rattle.script.specs.declared.Refusal.TheVariants.{Room}
use Rattle.script_commands.specs.Command.{bytes_of_all}
use Rattle.script_commands.specs.Translation.{commands_to, translated}
use Rattle.chip_run.specs.Run.{one, reads}
use Rattle.chip_play.specs.Played.{fresh}
use Rattle.text.specs.Ascii.{ascii}
use Rattle.text_changes.specs.Changes.{changed}
use Rattle.text_listing.specs.Line.{words}
use Rattle.script_commands.specs.declared.Command.{Command}
use Rattle.script.specs.declared.Refusal.{Refusal}

-- four bytes of no known form have no words: a translation has none of them
abbrev pub words_read : Option Command → List ℕ
words_read (Some x) = words x
words_read None = []

-- what stands behind a command's words, from the state before it and the state after it
unfoldable pub behind : Chip → Chip → List ℕ
behind c d = cond (differ c d) (ascii "   " ++ changed (named c) (named d)) (ascii "\n")

-- a line a command
unfoldable pub effects_of : Chip → ℕ → List (Option Command) → List ℕ
effects_of c acc [] = []
effects_of c acc (r ∷ rs) =
    let d = one c acc r in (words_read r ++ behind c d.chip) ++ effects_of d.chip d.acc rs

-- the text of a file
abbrev pub text : List ℕ → List ℕ
text f = effects_of fresh 0 (reads (bytes_of_all (commands_to f (step_count f))))

-- the room that the text of so many commands wants
abbrev pub wanted : ℕ → ℕ
wanted k = 38400 + 38 * k

abbrev pub told_by : Result ℕ Refusal → List ℕ → ℕ → Result ℕ Refusal
told_by (Ok k) f room = cond (ltb room (wanted k)) (Err Room) (Ok (length (text f)))
told_by (Err why) f room = Err why

-- the answer: how many bytes of text there are, or the refusal; the commands have a buffer of so many bytes, the text one of
-- so many
unfoldable pub told : List ℕ → ℕ → ℕ → Result ℕ Refusal
told f work room = told_by (translated f work) f room

-- what the lent output then holds
abbrev pub left_by : Result ℕ Refusal → List ℕ → List ℕ → List ℕ
left_by (Ok k) f out = cond (ltb (length out) (wanted k)) out (put out 0 (text f))
left_by (Err why) f out = out

unfoldable pub left : List ℕ → ℕ → List ℕ → List ℕ
left f work out = left_by (translated f work) f out

-- document 01's number and value for each answer
abbrev pub of_told : Result ℕ Refusal → Returned
of_told (Ok n) = returned 0 n
of_told (Err why) = of_refusal why
