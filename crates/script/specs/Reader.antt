-- "The script is read by a reader that stands over the caller's script bytes, built first as a position
-- beside them. After the last step it answers the end." (document 01, Scripts). The reader goes by the
-- steps that the blocks say they have and refuses six bytes that are no step that passes; 8 and 6 are the check's.
-- That it hands out exactly the steps of an accepted file is proofs/Reading.
use Rattle.std.specs.Prelude.{ℕ, zero, suc, ◌+◌, List, cond, ltb, Result, Option, Ok, Err, Some, None}
use Rattle.script.specs.File.{step_count, step_at}
use Rattle.script.specs.declared.Layout.TheVariants.{Blocks}
use Rattle.script_steps.specs.declared.Step.{Step}
use Rattle.script.specs.declared.Refusal.TheVariants.{Step as AtStep}
use Rattle.script.specs.declared.Turn.{Turn}
use Rattle.script_steps.specs.declared.Fault.{Fault}
use Rattle.script.specs.declared.Refusal.{Refusal}

-- a step that was read at place j
abbrev pub as_next : Result Step Fault → ℕ → Result (Option Step) Refusal
as_next (Ok s) j = Ok (Some s)
as_next (Err why) j = Err (AtStep j why)

-- what the reader answers at step j
unfoldable pub next_of : List ℕ → ℕ → Result (Option Step) Refusal
next_of f j = cond (ltb j (step_count f)) (as_next (step_at Blocks f j) j) (Ok None)

-- where it then stands: past a step that it handed out, and else where it was
abbrev pub after : Result (Option Step) Refusal → ℕ → ℕ
after (Ok (Some s)) j = j + 1
after (Err r) j = j
after (Ok None) j = j

-- .. and where it stands after n turns from the start
unfoldable pub stood : List ℕ → ℕ → ℕ
stood f zero = 0
stood f (suc n) = after (next_of f (stood f n)) (stood f n)

-- a turn of the reader
abbrev pub turned : List ℕ → ℕ → Turn
turned f j = record { next = next_of f j; place = record { at = after (next_of f j) j } }
