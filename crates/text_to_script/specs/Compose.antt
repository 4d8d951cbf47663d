-- A text made into a script file. Line by line, counted from 0: a line to pass over adds nothing, a step adds its six bytes,
-- and the first line that is of another form, whose step does not pass (document 01's 7; 11 of document 02, P2), or whose step
-- is the 1,009th (8) is reported. What is gathered then goes to the writer, which refuses a text without a step (8) and an
-- output with too little room (9). A refusal changes no byte of the output. How a line is read is the crate text_steps's
-- Reading.
use Rattle.std.specs.Prelude.{ℕ, ◌+◌, cond, List, [], ◌∷◌, ◌++◌, ltb, length, Result, Option, Ok, Err, Some, None}
use Rattle.lists.specs.Put.{put}
use Rattle.lists.specs.Numbers.{Returned, returned}
use Rattle.script_steps.specs.Step.{legal, idle, judged, bytes_of, fault_number}
use Rattle.text_steps.specs.Reading.{line_of}
use Rattle.script.specs.Numbers.{of_refusal}
use Rattle.script_writer.specs.Write.{file_of, written, written_table}
use Rattle.text_to_script.specs.Lines.{text_lines}
use Rattle.script_steps.specs.declared.Step.{Step}
use Rattle.script_steps.specs.declared.Fault.{Fault}
use Rattle.text_steps.specs.declared.NotAStep.{NotAStep}
use Rattle.text_steps.specs.declared.NotAStep.TheVariants.{Other}
use Rattle.script.specs.declared.Refusal.{Refusal}
use Rattle.text_to_script.specs.declared.LineError.{LineError}
use Rattle.text_to_script.specs.declared.LineError.TheVariants.{Form, Step as Faulty, Many}
use Rattle.text_to_script.specs.declared.ComposeError.{ComposeError}
use Rattle.text_to_script.specs.declared.ComposeError.TheVariants.{Stopped, Refused as NotWritten}

-- what is wrong with a line, with so many bytes of steps before it: 1,008 steps are 6,048 bytes
abbrev pub step_verdict : Result Step Fault → ℕ → Result (Unit {0}) LineError
step_verdict (Ok s) size = cond (ltb size 6048) (Ok tt) (Err Many)
step_verdict (Err why) size = Err (Faulty why)

abbrev pub verdict : Result (Option Step) NotAStep → ℕ → Result (Unit {0}) LineError
verdict (Ok None) size = Ok tt
verdict (Ok (Some step)) size = step_verdict (judged step) size
verdict (Err Other) size = Err Form

-- the steps with those of a line
abbrev pub with_line : Result (Option Step) NotAStep → List ℕ → List ℕ
with_line (Ok (Some step)) steps = steps ++ bytes_of step
with_line (Ok None) steps = steps
with_line (Err Other) steps = steps

-- a line that is not fine is the answer
abbrev pub or_stop : Result (Unit {0}) LineError → ℕ → Result ℕ ComposeError → Result ℕ ComposeError
or_stop (Ok tt) k rest = rest
or_stop (Err e) k rest = Err (Stopped (Err e) k)

abbrev pub of_writer : Result ℕ Refusal → Result ℕ ComposeError
of_writer (Ok n) = Ok n
of_writer (Err r) = Err (NotWritten r)

-- from line k on, with the steps of the lines before it
unfoldable pub composed_from : ℕ → List ℕ → List (List ℕ) → ℕ → Result ℕ ComposeError
composed_from k steps [] room = of_writer (written steps room)
composed_from k steps (l ∷ ls) room = or_stop (verdict (line_of l) (length steps)) k (composed_from (k + 1) (with_line (line_of l) steps) ls room)

unfoldable pub gathered : List ℕ → List (List ℕ) → List ℕ
gathered steps [] = steps
gathered steps (l ∷ ls) = gathered (with_line (line_of l) steps) ls

-- the answer, the file, and what the lent output then holds
abbrev pub composed : List ℕ → ℕ → Result ℕ ComposeError
composed text room = composed_from 0 [] (text_lines text) room

abbrev pub file_of_text : List ℕ → List ℕ
file_of_text text = file_of (gathered [] (text_lines text))

abbrev pub left_by : Result ℕ ComposeError → List ℕ → List ℕ → List ℕ
left_by (Ok n) text out = put out 0 (file_of_text text)
left_by (Err e) text out = out

-- the number; 0 for a line of another form, which has none
abbrev pub line_error_number : LineError → ℕ
line_error_number Form = 0
line_error_number (Faulty why) = fault_number why
line_error_number Many = 8

abbrev pub verdict_number : Result (Unit {0}) LineError → ℕ
verdict_number (Ok tt) = 0
verdict_number (Err e) = line_error_number e

-- number and value for each answer: a line that is not fine with its place, and what the writer refuses
abbrev pub of_composed : Result ℕ ComposeError → Returned
of_composed (Ok n) = returned 0 n
of_composed (Err (Stopped v k)) = returned (verdict_number v) k
of_composed (Err (NotWritten r)) = of_refusal r

-- the table of numbers for line k, with so many bytes of steps before it: 7, then 11, then 8 for the 1,009th step, else what
-- comes after
abbrev pub line_table : Result (Option Step) NotAStep → ℕ → ℕ → Returned → Returned
line_table (Ok None) size k rest = rest
line_table (Ok (Some s)) size k rest = cond (legal s) (cond (idle s) (returned 11 k) (cond (ltb size 6048) rest (returned 8 k))) (returned 7 k)
line_table (Err Other) size k rest = returned 0 k

-- .. and for a text: its lines in order, then the writer's
unfoldable pub lines_table : ℕ → List ℕ → List (List ℕ) → ℕ → Returned
lines_table k steps [] room = written_table steps room
lines_table k steps (l ∷ ls) room = line_table (line_of l) (length steps) k (lines_table (k + 1) (with_line (line_of l) steps) ls room)

abbrev pub composed_table : List ℕ → ℕ → Returned
composed_table text room = lines_table 0 [] (text_lines text) room
