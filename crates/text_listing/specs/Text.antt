-- The listing of a script file: document 01, "The listing program", and document 02, P6. The header of two lines, then a line a
-- command; or `refused`, a space and the number of "Numbers returned". The commands are those of the plain list, or those of the
-- short list (document 02, P8): each definition is said once, of a translation's answer and its commands, and has these two uses.
-- What the text is put into wants room for the longest text of so many commands: 87 bytes, and 12 for each command. With less
-- nothing is put there. Laws of the text are proofs/TextLaws.
use Rattle.std.specs.Prelude.{ℕ, ◌+◌, ◌*◌, cond, List, ◌++◌, ltb, length, Result, Ok, Err}
use Rattle.lists.specs.Put.{put}
use Rattle.script.specs.File.{step_count}
use Rattle.lists.specs.Numbers.{Returned, returned}
use Rattle.script.specs.Numbers.{of_refusal, checks_table}
use Rattle.script_commands.specs.Translation.{commands_to, translated}
use Rattle.script_commands.specs.declared.Command.{Command}
use Rattle.script_short.specs.Short.{short_to, short_translated}
use Rattle.chip_play.specs.Played.{fresh, changing_of}
use Rattle.text.specs.Ascii.{ascii}
use Rattle.text.specs.Digits.{decimal}
use Rattle.text.specs.Refused.{refused}
use Rattle.text_listing.specs.Line.{lines_of}
use Rattle.script.specs.declared.Refusal.{Refusal}
use Rattle.text_listing.specs.declared.ListError.{ListError}
use Rattle.text_listing.specs.declared.ListError.TheVariants.{Refused as NotListed, Short}

abbrev pub counts_line : ℕ → ℕ → List ℕ
counts_line steps commands = ascii "steps " ++ decimal steps ++ ascii " commands " ++ decimal commands ++ ascii "\n"

abbrev pub changing_line : ℕ → List ℕ
changing_line changing = ascii "changing " ++ decimal changing ++ ascii "\n"

abbrev pub header : ℕ → ℕ → ℕ → List ℕ
header steps commands changing = counts_line steps commands ++ changing_line changing

-- the text for what a translation of a file answers, and its commands; those that change a register or a colour are counted from
-- the state after a reset with pin bytes FFh and FFh. They are counted in the plain list, and the short list has as many (P6, P8)
abbrev pub text_by : Result ℕ Refusal → List Command → List ℕ → List ℕ
text_by (Ok k) cs f = header (step_count f) k (changing_of fresh f) ++ lines_of cs
text_by (Err r) cs f = refused (of_refusal r).number

-- the text of a file whose commands have so much room
unfoldable pub text : List ℕ → ℕ → List ℕ
text f work = text_by (translated f work) (commands_to f (step_count f)) f

-- .. and of its short commands
unfoldable pub short_text : List ℕ → ℕ → List ℕ
short_text f work = text_by (short_translated f work) (short_to f (step_count f)) f

-- the room that the text wants, whatever the numbers in it
abbrev pub wanted : Result ℕ Refusal → ℕ
wanted (Ok k) = 87 + 12 * k
wanted (Err r) = 87

-- the answer for a text of so many bytes: for a file that is refused, why is handed out with it
abbrev pub answered : Result ℕ Refusal → ℕ → Result ℕ ListError
answered (Ok k) n = Ok n
answered (Err r) n = Err (NotListed r n)

-- the answer for a text: how many bytes it has, or that there is too little room
abbrev pub listed_by : Result ℕ Refusal → List ℕ → ℕ → Result ℕ ListError
listed_by t bytes room = cond (ltb room (wanted t)) (Err Short) (answered t (length bytes))

unfoldable pub listed : List ℕ → ℕ → ℕ → Result ℕ ListError
listed f work room = listed_by (translated f work) (text f work) room

unfoldable pub short_listed : List ℕ → ℕ → ℕ → Result ℕ ListError
short_listed f work room = listed_by (short_translated f work) (short_text f work) room

-- what the lent output then holds: too little room changes no byte, and bytes after the text keep their value
abbrev pub left_by : Result ℕ ListError → List ℕ → List ℕ → List ℕ
left_by (Ok n) bytes out = put out 0 bytes
left_by (Err (NotListed r n)) bytes out = put out 0 bytes
left_by (Err Short) bytes out = out

-- a number and a value for each answer: a text's length with 0, a refused file's own, and too little room is 9 as it is for
-- commands
abbrev pub of_listed : Result ℕ ListError → Returned
of_listed (Ok n) = returned 0 n
of_listed (Err (NotListed r n)) = of_refusal r
of_listed (Err Short) = returned 9 0

-- the table of numbers for a listing: 9 where the output has too little room for the text; then the file's, 8, 6, 7 or 11, and
-- 9 where its commands have too little; else the text's length
abbrev pub table_by : Result ℕ Refusal → List ℕ → List ℕ → ℕ → ℕ → Returned
table_by t bytes f work room =
    cond (ltb room (wanted t)) (returned 9 0) (checks_table f (cond (ltb work (32 * step_count f)) (returned 9 0) (returned 0 (length bytes))))

abbrev pub listed_table : List ℕ → ℕ → ℕ → Returned
listed_table f work room = table_by (translated f work) (text f work) f work room

abbrev pub short_listed_table : List ℕ → ℕ → ℕ → Returned
short_listed_table f work room = table_by (short_translated f work) (short_text f work) f work room
