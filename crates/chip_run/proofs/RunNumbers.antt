-- The numbers of a run. Document 01, "Numbers returned": a command's number is that of the table, and a run's number and place
-- are those of the first command that is refused, in the state that the commands before it left; so 10, 2 and 1 are each given
-- exactly when.
use Prim.Native.Nat.{ℕ, zero, suc, ◌+◌, ◌/◌, ◌%◌, ◌≤◌, ◌<◌, min}
use native.Mathlib.Decide.{dec_lt}
use native.Mathlib.Omega.{arith}
use mathlib.Core.Bool.{Bool, true, false, cond}
use mathlib.Core.Path.{◌≡◌, refl, ◌∙◌, ap, sym}
use mathlib.Core.List.{List, [], ◌∷◌}
use lib.Dec.{eqb, ltb}
use lib.ListN.{length, take}
use borrow.Author.Tests.{lt-ltb, le-ltb}
use Rattle.chip.specs.Access.{answer_number, port_written, port_read}
use Rattle.chip.specs.Differ.{differ}
use Rattle.chip.specs.State.{Chip}
use Rattle.chip.proofs.NumberLaws.{write_number, read_number}
use Rattle.script_commands.specs.declared.Command.{Command}
use Rattle.script_commands.specs.declared.Command.TheVariants.{Out, In, Merge, OutAcc}
use Rattle.lists.specs.Numbers.{Returned, returned}
use Rattle.chip_run.specs.Run.{Ran, ran_to, handed, Did, answered, done, one, following, went_to, run_from, altering, carry, more, carried, reads, ran, least, reason_number, verdict_number, of_ending, command_table, stop_table, run_table}
use Rattle.chip_run.specs.declared.Reason.{Reason}
use Rattle.chip_run.specs.declared.Reason.TheVariants.{Form}
use Rattle.chip_run.specs.declared.Ending.TheVariants.{Stopped}
use Rattle.chip_run.proofs.RunLaws.{count_least, length-reads}
use Rattle.std.specs.Prelude.{Result, Option, Ok, Err, Some, None}
use Rattle.chip.specs.declared.access.AccessError.{AccessError}
use Rattle.chip.specs.declared.access.AccessError.TheVariants.{Unlisted, Closed}

-- ---- one command
pub answered-number : (a : Result (Unit {0}) AccessError) → verdict_number (answered a) ≡ answer_number a
answered-number (Ok tt) = refl
answered-number (Err Unlisted) = refl
answered-number (Err Closed) = refl

done-number : (c : Chip) (acc : ℕ) (x : Command) → verdict_number (done c acc x).verdict ≡ command_table c (Some x)
unfolding done
done-number c acc (Out p v) = answered-number (port_written c p v).answer ∙ write_number c p v
done-number c acc (In p) = answered-number (port_read c p).answer ∙ read_number c p
done-number c acc (Merge k s) = refl
done-number c acc (OutAcc p) = answered-number (port_written c p acc).answer ∙ write_number c p acc

pub one_number : (c : Chip) (acc : ℕ) (r : Option Command) → verdict_number (one c acc r).verdict ≡ command_table c r
unfolding one
one_number c acc (Some x) = done-number c acc x
one_number c acc None = refl

-- what the contract of `command` says, from the one equation
pub command_answered : (c : Chip) (acc : ℕ) (r : Option Command) {d : Did} {b : Bool} → d ≡ one c acc r → b ≡ differ c (one c acc r).chip
    → (d ≡ one c acc r) × ((verdict_number d.verdict ≡ command_table c r) × (b ≡ differ c (one c acc r).chip))
command_answered c acc r e f = (e, (ap (λ (d : Did). verdict_number d.verdict) e ∙ one_number c acc r, f))

-- ---- a run
-- number and place where n commands are carried out, of so many that there are and may be, from place k on
abbrev table_from : Chip → ℕ → ℕ → List (Option Command) → ℕ → ℕ → Returned
table_from c acc k rs n most = cond (ltb n most) (returned (stop_table c acc rs n) (k + n)) (returned 0 0)

pub carry_next : (c : Chip) (acc : ℕ) (r : Option Command) (rs : List (Option Command)) → (one c acc r).verdict ≡ Ok tt
    → carry c acc (r ∷ rs) ≡ carry (one c acc r).chip (one c acc r).acc rs
unfolding carry
carry_next c acc r rs e = rw e

pub carry-none : (c : Chip) (acc : ℕ) → (carry c acc []).chip ≡ c
unfolding carry
carry-none c acc = refl

-- past a command that was done
table_next : (c : Chip) (acc k : ℕ) (r : Option Command) (rs : List (Option Command)) (n most : ℕ) → (one c acc r).verdict ≡ Ok tt
    → table_from (one c acc r).chip (one c acc r).acc (k + 1) rs n most ≡ table_from c acc k (r ∷ rs) (suc n) (suc most)
table_next c acc k r rs n most e = go (dec_lt n most)
  where
    place : k + 1 + n ≡ k + suc n
    place = omega arith

    go : Dec (n < most) → table_from (one c acc r).chip (one c acc r).acc (k + 1) rs n most ≡ table_from c acc k (r ∷ rs) (suc n) (suc most)
    go (yes h) = let h' : suc n < suc most = omega arith in rw (lt-ltb _ _ h, lt-ltb _ _ h', carry_next c acc r (take n rs) e, place)
    go (no h) = let a : most ≤ n = omega arith in let a' : suc most ≤ suc n = omega arith in rw (le-ltb _ _ a, le-ltb _ _ a')

-- .. and at one that is refused
table_there : (c : Chip) (acc k : ℕ) (r : Option Command) (rs : List (Option Command)) (most : ℕ) (why : Reason) → (one c acc r).verdict ≡ Err why
    → returned (reason_number why) k ≡ table_from c acc k (r ∷ rs) 0 (suc most)
table_there c acc k r rs most why e =
    let h : 0 < suc most = omega arith in
    let z : k + 0 ≡ k = omega arith in
    let number : reason_number why ≡ command_table c r = ap verdict_number (sym e) ∙ one_number c acc r in
    rw (lt-ltb _ _ h, carry-none c acc, z, number)

ending_number : (rs : List (Option Command)) (c : Chip) (acc k left : ℕ)
    → of_ending (run_from c acc k left rs).ending ≡ table_from c acc k rs (min left (min (length rs) (carried c acc rs))) (min left (length rs))
unfolding run_from carried
ending_number [] c acc k left =
    let h : min left (length {A = Option Command} []) ≤ min left (min (length {A = Option Command} []) 0) = omega arith in
    rw (le-ltb _ _ h)
ending_number (r ∷ rs) c acc k zero =
    let h : min zero (length (r ∷ rs)) ≤ min zero (min (length (r ∷ rs)) (carried c acc (r ∷ rs))) = omega arith in
    rw (le-ltb _ _ h)
ending_number (r ∷ rs) c acc k (suc left) =
    go (one c acc r).verdict refl (ending_number rs (one c acc r).chip (one c acc r).acc (k + 1) left)
  where
    rest : ℕ
    rest = carried (one c acc r).chip (one c acc r).acc rs

    go : (v : Result (Unit {0}) Reason) → (one c acc r).verdict ≡ v
        → of_ending (run_from (one c acc r).chip (one c acc r).acc (k + 1) left rs).ending
        ≡ table_from (one c acc r).chip (one c acc r).acc (k + 1) rs (min left (min (length rs) rest)) (min left (length rs))
        → of_ending (following v (run_from (one c acc r).chip (one c acc r).acc (k + 1) left rs) (λ why. went_to c k (Stopped k why))).ending
        ≡ table_from c acc k (r ∷ rs) (min (suc left) (min (suc (length rs)) (more v rest))) (min (suc left) (suc (length rs)))
    go (Ok tt) e next =
        let a : min (suc left) (min (suc (length rs)) (suc rest)) ≡ suc (min left (min (length rs) rest)) = omega arith in
        let b : min (suc left) (suc (length rs)) ≡ suc (min left (length rs)) = omega arith in
        rw (a, b) (next ∙ table_next c acc k r rs (min left (min (length rs) rest)) (min left (length rs)) e)
    go (Err why) e next =
        let a : min (suc left) (min (suc (length rs)) 0) ≡ 0 = omega arith in
        let b : min (suc left) (suc (length rs)) ≡ suc (min left (length rs)) = omega arith in
        rw (a, b) (table_there c acc k r rs (min left (length rs)) why e)

pub run_number : (c : Chip) (bytes : List ℕ) (limit : ℕ) → of_ending (ran c bytes limit).ending ≡ run_table c bytes limit
unfolding ran run_table
run_number c bytes limit = go (eqb (length bytes % 4) 0)
  where
    n : ℕ
    n = min limit (min (length bytes / 4) (carried c 0 (reads bytes)))

    go : (z : Bool) → of_ending (cond z (handed (altering c 0 (take limit (reads bytes))) (run_from c 0 0 limit (reads bytes))) (ran_to c 0 0 (Stopped 0 Form))).ending
        ≡ cond z (cond (ltb (cond z n 0) (min limit (length bytes / 4))) (returned (stop_table c 0 (reads bytes) (cond z n 0)) (cond z n 0)) (returned 0 0)) (returned 10 0)
    go true =
        let m : ℕ = min limit (min (length (reads bytes)) (carried c 0 (reads bytes))) in
        let z : 0 + m ≡ m = omega arith in
        rw (← length-reads bytes) (rw z at (ending_number (reads bytes) c 0 0 limit))
    go false = refl

-- what the contract of `run` says, from the one equation
pub run_answered : (c : Chip) (bytes : List ℕ) (limit : ℕ) {r : Ran} → r ≡ ran c bytes limit
    → (r ≡ ran c bytes limit) × ((r.count ≡ least c bytes limit) × (of_ending r.ending ≡ run_table c bytes limit))
run_answered c bytes limit e =
    (e, (ap (λ (r : Ran). r.count) e ∙ count_least c bytes limit, ap (λ (r : Ran). of_ending r.ending) e ∙ run_number c bytes limit))
