-- The number and value of what composing a text answers are those of the table: the first line that is not fine, and then the
-- writer's.
use Prim.Native.Nat.{ℕ, ◌+◌}
use mathlib.Core.Bool.{Bool, true, false, cond}
use mathlib.Core.Path.{◌≡◌, refl, ap, ◌∙◌}
use mathlib.Core.List.{List, [], ◌∷◌}
use lib.Dec.{ltb}
use lib.ListN.{length}
use Rattle.lists.specs.Numbers.{returned}
use Rattle.script_steps.specs.Step.{legal, idle, judged}
use Rattle.script_steps.specs.declared.Step.{Step}
use Rattle.script_steps.specs.declared.Fault.TheVariants.{Unallowed, Idle}
use Rattle.text_steps.specs.Reading.{line_of}
use Rattle.script_writer.specs.Write.{written, of_written}
use Rattle.script_writer.proofs.Writing.{written-number}
use Rattle.text_to_script.specs.Lines.{text_lines}
use Rattle.text_to_script.specs.Compose.{step_verdict, verdict, with_line, or_stop, of_writer, composed_from, composed, of_composed, line_table, lines_table, composed_table}
use Rattle.std.specs.Prelude.{Result, Option, Ok, Err, Some, None}
use Rattle.text_steps.specs.declared.NotAStep.{NotAStep}
use Rattle.text_steps.specs.declared.NotAStep.TheVariants.{Other}
use Rattle.script.specs.declared.Refusal.{Refusal}
use Rattle.text_to_script.specs.declared.ComposeError.{ComposeError}

writer_number : (w : Result ℕ Refusal) → of_composed (of_writer w) ≡ of_written w
writer_number (Ok n) = refl
writer_number (Err r) = refl

-- a line
step_number : (s : Step) (size k : ℕ) (rest : Result ℕ ComposeError) → of_composed (or_stop (step_verdict (judged s) size) k rest) ≡ line_table (Ok (Some s)) size k (of_composed rest)
unfolding judged
step_number s size k rest = go (legal s) (idle s) (ltb size 6048) refl
  where
    go : (a b c : Bool) → ltb size 6048 ≡ c
        → of_composed (or_stop (step_verdict (cond a (cond b (Err Idle) (Ok s)) (Err Unallowed)) size) k rest)
        ≡ cond a (cond b (returned 11 k) (cond (ltb size 6048) (of_composed rest) (returned 8 k))) (returned 7 k)
    go false b c e = refl
    go true true c e = refl
    go true false true e = rw e
    go true false false e = rw e

line-number : (l : Result (Option Step) NotAStep) (size k : ℕ) (rest : Result ℕ ComposeError) → of_composed (or_stop (verdict l size) k rest) ≡ line_table l size k (of_composed rest)
line-number (Ok None) size k rest = refl
line-number (Ok (Some s)) size k rest = step_number s size k rest
line-number (Err Other) size k rest = refl

-- the lines, from line k on
lines_number : (ls : List (List ℕ)) (k : ℕ) (steps : List ℕ) (room : ℕ) → of_composed (composed_from k steps ls room) ≡ lines_table k steps ls room
unfolding composed_from lines_table
lines_number [] k steps room = writer_number (written steps room) ∙ written-number steps room
lines_number (l ∷ ls) k steps room =
    line-number (line_of l) (length steps) k (composed_from (k + 1) (with_line (line_of l) steps) ls room)
    ∙ ap (line_table (line_of l) (length steps) k) (lines_number ls (k + 1) (with_line (line_of l) steps) room)

pub composed-number : (text : List ℕ) (room : ℕ) → of_composed (composed text room) ≡ composed_table text room
composed-number text room = lines_number (text_lines text) 0 [] room
