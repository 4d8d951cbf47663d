-- A script file: its blocks, its steps, and what checking it answers, in document 01's order (Scripts;
-- Numbers returned): 8, then 6 over all blocks, then 7 or, by document 02, P2, 11. The first offending place
-- is given, counted from 0, a step over the whole file. What a block has to be is specs/Block, what a step
-- has to be the crate script_steps.
use Rattle.std.specs.Prelude.{ℕ, zero, suc, ◌+◌, ◌-◌, ◌*◌, ◌/◌, ◌%◌, List, Bool, cond, not, length, get_or, take, drop, ltb, eqb, Result, Ok, Err}
use Rattle.lists.specs.Scan.{first_not}
use Rattle.lists.specs.Units.{whole_units}
use Rattle.script_steps.specs.Step.{read_at, is_good}
use Rattle.script.specs.Block.{block_legal}
use Rattle.script.specs.declared.Layout.{Layout}
use Rattle.script.specs.declared.Layout.TheVariants.{Plain, Blocks}
use Rattle.script_steps.specs.declared.Step.{Step}
use Rattle.script.specs.declared.Refusal.TheVariants.{Length, Block, Step as AtStep}
use Rattle.script_steps.specs.declared.Fault.{Fault}
use Rattle.script.specs.declared.Refusal.{Refusal}

-- "A script file is 1 to 12 blocks of 512 bytes."
abbrev pub whole_blocks : List ℕ → Bool
whole_blocks f = whole_units 512 12 (length f)

abbrev pub blocks : List ℕ → ℕ
blocks f = length f / 512

abbrev pub block : List ℕ → ℕ → List ℕ
block f k = take 512 (drop (512 * k) f)

-- the first block that breaks a rule, or the number of blocks
abbrev pub legal_at : List ℕ → ℕ → Bool
legal_at f k = block_legal (block f k) k (eqb (k + 1) (blocks f))

abbrev pub first_bad_block : List ℕ → ℕ
first_bad_block f = first_not (legal_at f) 0 (blocks f)

-- every block but the last has 84 steps, and the last as many as its byte 2 says
unfoldable pub step_count : List ℕ → ℕ
step_count f = cond (eqb (blocks f) 0) 0 (84 * (blocks f - 1) + get_or f (512 * (blocks f - 1) + 2) 0)

-- where step j stands: in a list, one step after another; in a file, 84 to a block, from its byte 6 on
abbrev pub step_place : Layout → ℕ → ℕ
step_place Plain j = 6 * j
step_place Blocks j = 512 * (j / 84) + 6 + 6 * (j % 84)

abbrev pub step_at : Layout → List ℕ → ℕ → Result Step Fault
step_at layout f j = read_at f (step_place layout j)

-- the first of m steps that does not pass, or m
abbrev pub first_bad_step : Layout → List ℕ → ℕ → ℕ
first_bad_step layout f m = first_not (λ j. is_good (step_at layout f j)) 0 m

-- the answer for a step that is read as step j: its refusal, or what the steps after it come to
abbrev pub or_refused : Result Step Fault → ℕ → Result ℕ Refusal → Result ℕ Refusal
or_refused (Ok s) j rest = rest
or_refused (Err why) j rest = Err (AtStep j why)

-- the n steps from step j on: the first that does not pass is refused for what is wrong with it; else where they end
unfoldable pub steps_checked : Layout → List ℕ → ℕ → ℕ → Result ℕ Refusal
steps_checked layout f j zero = Ok j
steps_checked layout f j (suc n) = or_refused (step_at layout f j) j (steps_checked layout f (j + 1) n)

-- 8, 6, then 7 or 11; else the number of steps
unfoldable pub checked : List ℕ → Result ℕ Refusal
checked f =
    cond (not (whole_blocks f)) (Err Length)
    (cond (ltb (first_bad_block f) (blocks f)) (Err (Block (first_bad_block f)))
    (steps_checked Blocks f 0 (step_count f)))
