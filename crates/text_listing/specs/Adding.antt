-- How the text grows: the lines of commands that are read from their bytes, and the text of what a play answered and left. Only
-- the private functions' contracts speak of these. That the lines of a translated script's bytes are its commands' lines is
-- proofs/Adding, and that a play's text is the listing's proofs/Listing.
use Rattle.std.specs.Prelude.{ℕ, zero, suc, ◌+◌, ◌*◌, ◌≤◌, List, [], ◌++◌, length, get_or, Result, Option, Ok, Err, Some, None}
use Rattle.script.specs.File.{step_count}
use Rattle.script.specs.Numbers.{of_refusal}
use Rattle.script_commands.specs.Command.{command_of}
use Rattle.text.specs.Refused.{refused}
use Rattle.text_listing.specs.Line.{line}
use Rattle.text_listing.specs.Text.{header}
use Rattle.script_commands.specs.declared.Command.{Command}
use Rattle.script.specs.declared.Refusal.{Refusal}
use Rattle.chip_run.specs.declared.Tally.{Tally}

-- four bytes of no known form have no line: a translation has none of them
abbrev pub line_read : Option Command → List ℕ
line_read (Some c) = line c
line_read None = []

abbrev pub command_at : List ℕ → ℕ → Option Command
command_at bs p = command_of (get_or bs p 0) (get_or bs (p + 1) 0) (get_or bs (p + 2) 0) (get_or bs (p + 3) 0)

-- the lines of the first n commands of a list of bytes
unfoldable pub lines_to : List ℕ → ℕ → List ℕ
lines_to bs zero = []
lines_to bs (suc n) = lines_to bs n ++ line_read (command_at bs (4 * n))

-- what the translation had answered, where a script's commands were all carried out
abbrev pub answer_of : Result Tally Refusal → Result ℕ Refusal
answer_of (Err why) = Err why
answer_of (Ok t) = Ok t.count

-- how many commands stand in front of the bytes that are left
abbrev pub count_of : Result Tally Refusal → ℕ
count_of (Err why) = 0
count_of (Ok t) = t.count

-- they do stand there, and they are no more than 1,008 steps have
pub record Stands (o : Result Tally Refusal) (bytes : List ℕ) : Type 0 where
  pub within : 4 * count_of o ≤ length bytes
  pub few : count_of o ≤ 8064

-- the text of a file of which a play answered and left this
abbrev pub text_of : Result Tally Refusal → List ℕ → List ℕ → List ℕ
text_of (Err why) f bytes = refused (of_refusal why).number
text_of (Ok t) f bytes = header (step_count f) t.count t.changing ++ lines_to bytes t.count
