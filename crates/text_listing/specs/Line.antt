-- A command in words, and its line: document 01, "The listing program". `OUT 3D6 60`, `IN 3D7`, `MERGE 7F 80` (keep, then set)
-- and `OUTA 3D7`; the line has a line feed after it.
use Rattle.std.specs.Prelude.{ℕ, List, [], ◌∷◌, ◌++◌}
use Rattle.script_commands.specs.declared.Command.{Command}
use Rattle.script_commands.specs.declared.Command.TheVariants.{Out, In, Merge, OutAcc}
use Rattle.text.specs.Ascii.{ascii}
use Rattle.text.specs.Digits.{byte_digits, port_digits}

abbrev pub words : Command → List ℕ
words (Out port value) = ascii "OUT " ++ port_digits port ++ ascii " " ++ byte_digits value
words (In port) = ascii "IN " ++ port_digits port
words (Merge keep set) = ascii "MERGE " ++ byte_digits keep ++ ascii " " ++ byte_digits set
words (OutAcc port) = ascii "OUTA " ++ port_digits port

abbrev pub line : Command → List ℕ
line c = words c ++ ascii "\n"

-- a line a command
unfoldable pub lines_of : List Command → List ℕ
lines_of [] = []
lines_of (c ∷ cs) = line c ++ lines_of cs
