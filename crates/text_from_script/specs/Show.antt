-- A script file as text: a line for each step, in order. What the text is put into wants room for the longest line, 20 bytes,
-- for each step; the refusals are those of the file (document 01, Numbers returned: 8, 6, 7; document 02, P2: 11), and 9 for
-- too little room. A refusal changes no byte, and bytes after the text keep their value. That composing the text gives the same
-- file again is the crate text_to_script's.
use Rattle.std.specs.Prelude.{ℕ, zero, suc, ◌*◌, cond, ◌≡◌, List, [], ◌++◌, ltb, length, Result, Option, Ok, Err, Some, None}
use Rattle.lists.specs.Put.{put}
use Rattle.lists.specs.Numbers.{Returned, returned}
use Rattle.script.specs.File.{step_count, checked}
use Rattle.script.specs.Reader.{next_of}
use Rattle.script.specs.Numbers.{of_refusal, checks_table}
use Rattle.script.specs.declared.Refusal.TheVariants.{Room}
use Rattle.text_steps.specs.Written.{step_line}
use Rattle.script.specs.declared.Refusal.{Refusal}
use Rattle.script_steps.specs.declared.Step.{Step}

-- the line of what the reader hands out; an accepted file has a step wherever it is asked below its count
abbrev pub line_of_next : Result (Option Step) Refusal → List ℕ
line_of_next (Ok (Some s)) = step_line s
line_of_next (Err r) = []
line_of_next (Ok None) = []

-- the lines of the first n steps
unfoldable pub text_to : List ℕ → ℕ → List ℕ
text_to f zero = []
text_to f (suc n) = text_to f n ++ line_of_next (next_of f n)

abbrev pub text_of : List ℕ → List ℕ
text_of f = text_to f (step_count f)

-- the answer: how many bytes of text there are, or the refusal
abbrev pub shown_by : Result ℕ Refusal → List ℕ → ℕ → Result ℕ Refusal
shown_by (Ok m) f room = cond (ltb room (20 * m)) (Err Room) (Ok (length (text_of f)))
shown_by (Err r) f room = Err r

unfoldable pub shown : List ℕ → ℕ → Result ℕ Refusal
shown f room = shown_by (checked f) f room

-- what the lent output then holds
abbrev pub left_by : Result ℕ Refusal → List ℕ → List ℕ → List ℕ
left_by (Ok n) f out = put out 0 (text_of f)
left_by (Err r) f out = out

-- document 01's number and value for each answer
abbrev pub of_shown : Result ℕ Refusal → Returned
of_shown (Ok n) = returned 0 n
of_shown (Err r) = of_refusal r

-- the table of numbers for a file shown, in its order: 8, 6, 7 or 11, 9
abbrev pub shown_table : List ℕ → ℕ → Returned
shown_table f room = checks_table f (cond (ltb room (20 * step_count f)) (returned 9 0) (returned 0 (length (text_of f))))

-- the lines of the first m steps stand in front of an output, and are counted. Only a private contract speaks of this
pub record LinesPut (f : List ℕ) (m : ℕ) (before after : List ℕ) (r : Result ℕ Refusal) : Type 0 where
  pub answer : r ≡ Ok (length (text_to f m))
  pub text : after ≡ put before 0 (text_to f m)
