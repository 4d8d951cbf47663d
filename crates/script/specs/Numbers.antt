-- Document 01's numbers for each answer, with the value returned beside it (Numbers returned): one
-- definition to an answer, and the tables of numbers for the reader, for steps and for a checked file, which the answers are
-- proved to meet. The number of one step is the crate script_steps'.
use Rattle.std.specs.Prelude.{ℕ, List, cond, not, ltb, Result, Option, Ok, Err, Some, None}
use Rattle.lists.specs.Numbers.{Returned, returned}
use Rattle.script_steps.specs.Step.{fault_number, of_step_read}
use Rattle.script.specs.File.{whole_blocks, blocks, first_bad_block, step_count, step_at, first_bad_step}
use Rattle.script.specs.declared.Layout.{Layout}
use Rattle.script.specs.declared.Layout.TheVariants.{Blocks}
use Rattle.script.specs.declared.Refusal.{Refusal}
use Rattle.script_steps.specs.declared.Step.{Step}
use Rattle.script.specs.declared.Refusal.TheVariants.{Length, Block, Step as AtStep, Room}

-- 6 a block breaks a rule: block number; 7 a step is none of the allowed, 11 a step can do nothing: step
-- number; 8 not whole blocks or steps; 9 too little room
abbrev pub of_refusal : Refusal → Returned
of_refusal (Block k) = returned 6 k
of_refusal (AtStep j why) = returned (fault_number why) j
of_refusal Length = returned 8 0
of_refusal Room = returned 9 0

-- 0 done: the number of steps
abbrev pub of_checked : Result ℕ Refusal → Returned
of_checked (Ok m) = returned 0 m
of_checked (Err r) = of_refusal r

-- 0 done: the answer is the step, or the end, and no number
abbrev pub of_next : Result (Option Step) Refusal → Returned
of_next (Ok (Some s)) = returned 0 0
of_next (Err r) = of_refusal r
of_next (Ok None) = returned 0 0

-- the table for the reader at step j: of what is read there, before the end
abbrev pub next_table : List ℕ → ℕ → Returned
next_table f j = cond (ltb j (step_count f)) (of_step_read j (step_at Blocks f j)) (returned 0 0)

-- the table for m steps: the first that does not pass reports its own number; else what comes after
abbrev pub steps_table : Layout → List ℕ → ℕ → Returned → Returned
steps_table layout f m rest =
    cond (ltb (first_bad_step layout f m) m) (of_step_read (first_bad_step layout f m) (step_at layout f (first_bad_step layout f m))) rest

-- the table for whatever begins with the check of a file, in its order; and for the check alone
abbrev pub checks_table : List ℕ → Returned → Returned
checks_table f rest =
    cond (not (whole_blocks f)) (returned 8 0)
    (cond (ltb (first_bad_block f) (blocks f)) (returned 6 (first_bad_block f))
    (steps_table Blocks f (step_count f) rest))

abbrev pub checked_table : List ℕ → Returned
checked_table f = checks_table f (returned 0 (step_count f))
