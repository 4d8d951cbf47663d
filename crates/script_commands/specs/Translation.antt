-- A whole script file translated into its commands: document 01, "Commands" and "Numbers returned", 8, 6, 7 or, by document 02,
-- P2, 11, and 9 in that order. Where a step's commands begin is how many commands the steps before it have.
use Rattle.std.specs.Prelude.{ℕ, zero, suc, ◌*◌, cond, List, [], ◌∷◌, ◌++◌, ltb, length, Result, Option, Ok, Err, Some, None}
use Rattle.lists.specs.Put.{put}
use Rattle.script_steps.specs.declared.Step.{Step}
use Rattle.script.specs.File.{step_count, checked}
use Rattle.script.specs.Reader.{next_of}
use Rattle.lists.specs.Numbers.{Returned, returned}
use Rattle.script.specs.Numbers.{of_refusal, checks_table}
use Rattle.script.specs.declared.Refusal.TheVariants.{Room}
use Rattle.script_commands.specs.Command.{bytes_of_all}
use Rattle.script_commands.specs.Expansion.{commands_of}
use Rattle.script_commands.specs.declared.Command.{Command}
use Rattle.script.specs.declared.Refusal.{Refusal}

-- what the reader hands out, as a list
abbrev pub handed : Result (Option Step) Refusal → List Step
handed (Ok (Some s)) = s ∷ []
handed (Err r) = []
handed (Ok None) = []

-- the first n steps of a file, as the reader hands them out
unfoldable pub steps_to : List ℕ → ℕ → List Step
steps_to f zero = []
steps_to f (suc n) = steps_to f n ++ handed (next_of f n)

-- the commands of the first n steps, and how many they are
abbrev pub commands_to : List ℕ → ℕ → List Command
commands_to f n = commands_of (steps_to f n)

abbrev pub begins : List ℕ → ℕ → ℕ
begins f n = length (commands_to f n)

-- an accepted file, with the list of the commands of its first so many steps, wants 32 bytes a step, even where its commands
-- would fit in fewer
abbrev pub if_room : Result ℕ Refusal → (ℕ → List Command) → ℕ → Result ℕ Refusal
if_room (Ok m) list room = cond (ltb room (32 * m)) (Err Room) (Ok (length (list m)))
if_room (Err r) list room = Err r

unfoldable pub translated : List ℕ → ℕ → Result ℕ Refusal
translated f room = if_room (checked f) (commands_to f) room

-- what the lent output then holds: a refusal changes no byte, and bytes after the commands keep their value
abbrev pub put_by : Result ℕ Refusal → List Command → List ℕ → List ℕ
put_by (Ok k) cs out = put out 0 (bytes_of_all cs)
put_by (Err r) cs out = out

abbrev pub left_by : Result ℕ Refusal → List ℕ → List ℕ → List ℕ
left_by t f out = put_by t (commands_to f (step_count f)) out

-- where the commands of step n of a file begin: how many commands the steps before it have. Past the last step there are no more
abbrev pub if_accepted : Result ℕ Refusal → ℕ → Result ℕ Refusal
if_accepted (Ok m) k = Ok k
if_accepted (Err r) k = Err r

unfoldable pub begun : List ℕ → ℕ → Result ℕ Refusal
begun f n = if_accepted (checked f) (begins f n)

-- document 01's number and value for each answer
abbrev pub of_translated : Result ℕ Refusal → Returned
of_translated (Ok k) = returned 0 k
of_translated (Err r) = of_refusal r

-- the table of numbers for a translation, in its order: 8, 6, 7 or 11, 9
abbrev pub room_table : List ℕ → (ℕ → List Command) → ℕ → Returned
room_table f list room = checks_table f (cond (ltb room (32 * step_count f)) (returned 9 0) (returned 0 (length (list (step_count f)))))

abbrev pub translated_table : List ℕ → ℕ → Returned
translated_table f room = room_table f (commands_to f) room

-- .. and for where a step's commands begin
abbrev pub begun_table : List ℕ → ℕ → Returned
begun_table f n = checks_table f (returned 0 (begins f n))
