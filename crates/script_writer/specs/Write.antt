-- What the writer makes of a list of steps, six bytes each (document 01, Scripts; Numbers returned): 8 for
-- a list that is not 1 to 1,008 whole steps, then 7 or, by document 02, P2, 11 for the first step that does
-- not pass, then 9 for an output under 512 bytes a block; else the file, with the bytes after it as they
-- were. A block is laid out as specs/Block of the crate script says. The round trips are proofs/RoundTrip.
use Rattle.std.specs.Prelude.{ℕ, zero, suc, ◌+◌, ◌-◌, ◌*◌, ◌/◌, ◌%◌, min, List, [], ◌∷◌, ◌++◌, Bool, cond, not, length, get_or, ltb, eqb, Result, Ok, Err}
use Rattle.lists.specs.Numbers.{Returned, returned}
use Rattle.lists.specs.Put.{put}
use Rattle.lists.specs.Tab.{tab}
use Rattle.lists.specs.Units.{whole_units}
use Rattle.script.specs.Block.{last_mark, with_check}
use Rattle.script.specs.File.{step_place, steps_checked}
use Rattle.script.specs.Numbers.{of_refusal, steps_table}
use Rattle.script.specs.declared.Layout.TheVariants.{Plain, Blocks as InBlocks}
use Rattle.script.specs.declared.Refusal.TheVariants.{Length, Room}
use Rattle.script.specs.declared.Refusal.{Refusal}

-- "1 to 1,008 whole steps"
abbrev pub whole_steps : List ℕ → Bool
whole_steps s = whole_units 6 1008 (length s)

-- 84 steps to a block, and the last block for what is left
abbrev pub blocks_for : List ℕ → ℕ
blocks_for s = (length s + 503) / 504

abbrev pub steps_here : List ℕ → ℕ → ℕ
steps_here s k = min 84 ((length s - 504 * k) / 6)

-- block k of n: number, steps here, 1 in the last, zeros; then the places, zero past the last step; then the check
abbrev pub header : List ℕ → ℕ → ℕ → List ℕ
header s k n = k % 256 ∷ k / 256 ∷ steps_here s k ∷ last_mark (eqb (k + 1) n) ∷ 0 ∷ 0 ∷ []

abbrev pub places : List ℕ → ℕ → List ℕ
places s k = tab (λ p. get_or s (504 * k + p) 0) 504

unfoldable pub front : List ℕ → ℕ → ℕ → List ℕ
front s k n = header s k n ++ places s k

abbrev pub block_of : List ℕ → ℕ → ℕ → List ℕ
block_of s k n = with_check (front s k n)

-- the first k blocks of n, and all of them
unfoldable pub blocks_to : List ℕ → ℕ → ℕ → List ℕ
blocks_to s n zero = []
blocks_to s n (suc k) = blocks_to s n k ++ block_of s k n

abbrev pub file_of : List ℕ → List ℕ
file_of s = blocks_to s (blocks_for s) (blocks_for s)

-- steps that pass want 512 bytes a block
abbrev pub if_room : Result ℕ Refusal → List ℕ → ℕ → Result ℕ Refusal
if_room (Ok m) s room = cond (ltb room (512 * blocks_for s)) (Err Room) (Ok (blocks_for s))
if_room (Err r) s room = Err r

-- 8, then 7 or 11, then 9; else the number of blocks
unfoldable pub written : List ℕ → ℕ → Result ℕ Refusal
written s room = cond (not (whole_steps s)) (Err Length) (if_room (steps_checked Plain s 0 (length s / 6)) s room)

-- what the lent output then holds: a refusal changes no byte
abbrev pub left_by : Result ℕ Refusal → List ℕ → List ℕ → List ℕ
left_by (Ok n) s out = put out 0 (file_of s)
left_by (Err r) s out = out

-- document 01's number and value for each answer, and its table for a list of steps
abbrev pub of_written : Result ℕ Refusal → Returned
of_written (Ok n) = returned 0 n
of_written (Err r) = of_refusal r

abbrev pub written_table : List ℕ → ℕ → Returned
written_table s room =
    cond (not (whole_steps s)) (returned 8 0)
    (steps_table Plain s (length s / 6)
    (cond (ltb room (512 * blocks_for s)) (returned 9 0)
    (returned 0 (blocks_for s))))

-- the first m steps of a file, one after another: byte p of them is byte p % 6 of step p / 6
abbrev pub steps_of : List ℕ → ℕ → List ℕ
steps_of f m = tab (λ p. get_or f (step_place InBlocks (p / 6) + p % 6) 0) (6 * m)
