-- How many commands of a run changed a register or a colour. Document 02, P6: at most as many as were carried out; of two lists
-- one after the other the sum; 0 exactly where registers and colours never moved at any command; and a larger limit gives no
-- smaller count.
use Prim.Native.Nat.{ℕ, zero, suc, ◌+◌, ◌/◌, ◌%◌, ◌≤◌, min}
use native.Mathlib.Nat.{add_assoc, zero-add}
use native.Mathlib.Omega.{arith}
use mathlib.Core.Bool.{Bool, true, false, cond}
use mathlib.Core.Logic.{◌↔◌}
use mathlib.Core.Path.{◌≡◌, refl, ◌∙◌, ap, sym}
use mathlib.Core.List.{List, [], ◌∷◌, ◌++◌}
use lib.Dec.{eqb}
use lib.ListN.{length, take, length-append}
use lib.Seq.{take_all, take-append-add}
use borrow.Author.Tests.{eq-eqb}
use Rattle.chip.specs.Differ.{differ, changes}
use Rattle.chip.specs.State.{Chip}
use Rattle.script_commands.specs.Command.{command_of}
use Rattle.chip_run.specs.Run.{Did, did, one, counted, altering, run_from, ran_to, handed, after_done, carry, more, carried, state_at, Still, reads, ran}
use Rattle.chip_run.specs.declared.Reason.TheVariants.{Form}
use Rattle.chip_run.specs.declared.Ending.TheVariants.{Stopped}
use Rattle.chip_run.proofs.Turns.{step_most}
use Rattle.chip_run.proofs.RunLaws.{counts, length-reads, different}
use Rattle.chip_run.proofs.RunNumbers.{carry_next, carry-none}
use Rattle.std.specs.Prelude.{Result, Option, Ok, Err}
use Rattle.script_commands.specs.declared.Command.{Command}
use Rattle.chip_run.specs.declared.Reason.{Reason}

-- past a command that was done
altering_next : (c : Chip) (acc : ℕ) (r : Option Command) (rs : List (Option Command)) → (one c acc r).verdict ≡ Ok tt
    → altering c acc (r ∷ rs) ≡ changes c (one c acc r).chip + altering (one c acc r).chip (one c acc r).acc rs
unfolding altering
altering_next c acc r rs e = rw e

carried_next : (c : Chip) (acc : ℕ) (r : Option Command) (rs : List (Option Command)) → (one c acc r).verdict ≡ Ok tt
    → carried c acc (r ∷ rs) ≡ suc (carried (one c acc r).chip (one c acc r).acc rs)
unfolding carried
carried_next c acc r rs e = rw e

-- ---- at most as many as were carried out
altering_most : (rs : List (Option Command)) (c : Chip) (acc left : ℕ) → altering c acc (take left rs) ≤ min left (carried c acc rs)
unfolding altering carried
altering_most rs c acc zero = omega arith
altering_most [] c acc (suc left) = omega arith
altering_most (r ∷ rs) c acc (suc left) =
    go (one c acc r).verdict (altering_most rs (one c acc r).chip (one c acc r).acc left)
  where
    one_most : changes c (one c acc r).chip ≤ 1
    one_most = step_most (differ c (one c acc r).chip) refl

    go : (v : Result (Unit {0}) Reason)
        → altering (one c acc r).chip (one c acc r).acc (take left rs) ≤ min left (carried (one c acc r).chip (one c acc r).acc rs)
        → counted v (changes c (one c acc r).chip) (altering (one c acc r).chip (one c acc r).acc (take left rs))
        ≤ min (suc left) (more v (carried (one c acc r).chip (one c acc r).acc rs))
    go (Ok tt) h = omega (arith, one_most)
    go (Err why) h = omega arith

-- a run counts at most as many as it carried out
pub changing_most : (c : Chip) (bytes : List ℕ) (limit : ℕ) → (ran c bytes limit).changing ≤ (ran c bytes limit).count
unfolding ran
changing_most c bytes limit = go (eqb (length bytes % 4) 0)
  where
    go : (z : Bool)
        → (cond z (handed (altering c 0 (take limit (reads bytes))) (run_from c 0 0 limit (reads bytes))) (ran_to c 0 0 (Stopped 0 Form))).changing
        ≤ (cond z (handed (altering c 0 (take limit (reads bytes))) (run_from c 0 0 limit (reads bytes))) (ran_to c 0 0 (Stopped 0 Form))).count
    go true = omega (arith, altering_most (reads bytes) c 0 limit, counts (reads bytes) c 0 0 limit)
    go false = omega arith

-- ---- of two lists one after the other, where the first is carried out whole, the sum
pub altering-append : (xs ys : List (Option Command)) (c d : Chip) (a b : ℕ) → carry c a xs ≡ did (Ok tt) b d
    → altering c a (xs ++ ys) ≡ altering c a xs + altering d b ys
unfolding carry altering
altering-append [] ys c d a b h = ap (λ (t : Did). altering t.chip t.acc ys) h ∙ sym (zero-add (altering d b ys))
altering-append (x ∷ xs) ys c d a b h = go (one c a x) (one c a x).verdict refl (altering-append xs ys _ d _ b) h
  where
    go : (t : Did) (v : Result (Unit {0}) Reason) → t.verdict ≡ v
        → (carry t.chip t.acc xs ≡ did (Ok tt) b d → altering t.chip t.acc (xs ++ ys) ≡ altering t.chip t.acc xs + altering d b ys)
        → after_done v (carry t.chip t.acc xs) t ≡ did (Ok tt) b d
        → counted v (changes c t.chip) (altering t.chip t.acc (xs ++ ys))
        ≡ counted v (changes c t.chip) (altering t.chip t.acc xs) + altering d b ys
    go t (Ok tt) e f g = ap (λ (n : ℕ). changes c t.chip + n) (f g) ∙ sym (add_assoc _ _ _)
    go t (Err why) e f g = absurd (different why (sym e ∙ ap (λ (u : Did). u.verdict) g))

reads-append : (bs cs : List ℕ) → length bs % 4 ≡ 0 → reads (bs ++ cs) ≡ reads bs ++ reads cs
unfolding reads
reads-append [] cs h = refl
reads-append (x ∷ []) cs h = absurd (omega arith)
reads-append (x ∷ y ∷ []) cs h = absurd (omega arith)
reads-append (x ∷ y ∷ z ∷ []) cs h = absurd (omega arith)
reads-append (x ∷ y ∷ z ∷ w ∷ bs) cs h = ap (◌∷◌ (command_of x y z w)) (reads-append bs cs (omega arith))

even_changing : (c : Chip) (bytes : List ℕ) (limit : ℕ) → length bytes % 4 ≡ 0 → (ran c bytes limit).changing ≡ altering c 0 (take limit (reads bytes))
unfolding ran
even_changing c bytes limit h = rw (eq-eqb _ _ h)

-- .. and so of two runs of bytes, where the first leaves the accumulator at 0, with which the second begins
pub changing-append : (bs cs : List ℕ) (c d : Chip) (l : ℕ) → length bs % 4 ≡ 0 → length cs % 4 ≡ 0 → carry c 0 (reads bs) ≡ did (Ok tt) 0 d
    → (ran c (bs ++ cs) (length bs / 4 + l)).changing ≡ (ran c bs (length bs / 4)).changing + (ran d cs l).changing
changing-append bs cs c d l even even' h =
    let n : length (reads bs) ≡ length bs / 4 = length-reads bs in
    let both : length (bs ++ cs) % 4 ≡ 0 = omega (arith, length-append bs cs) in
    let front : take (length bs / 4) (reads bs) ≡ reads bs = take_all (length bs / 4) (reads bs) (omega arith) in
    let whole : take (length bs / 4 + l) (reads (bs ++ cs)) ≡ reads bs ++ take l (reads cs) =
    rw (← n, reads-append bs cs even) (take-append-add (reads bs) (reads cs) l) in
    even_changing c (bs ++ cs) (length bs / 4 + l) both ∙ ap (altering c 0) whole ∙ altering-append (reads bs) (take l (reads cs)) c d 0 0 h
    ∙ sym (rw (even_changing c bs (length bs / 4) even, even_changing d cs l even', front) refl)

-- ---- a larger limit gives no smaller count
pub altering-longer : (rs : List (Option Command)) (c : Chip) (acc l m : ℕ) → altering c acc (take l rs) ≤ altering c acc (take (l + m) rs)
unfolding altering
altering-longer rs c acc zero m = omega arith
altering-longer [] c acc (suc l) m = let e : suc l + m ≡ suc (l + m) = omega arith in rw e (omega arith)
altering-longer (r ∷ rs) c acc (suc l) m =
    let e : suc l + m ≡ suc (l + m) = omega arith in
    rw e (go (one c acc r).verdict (altering-longer rs (one c acc r).chip (one c acc r).acc l m))
  where
    go : (v : Result (Unit {0}) Reason)
        → altering (one c acc r).chip (one c acc r).acc (take l rs) ≤ altering (one c acc r).chip (one c acc r).acc (take (l + m) rs)
        → counted v (changes c (one c acc r).chip) (altering (one c acc r).chip (one c acc r).acc (take l rs))
        ≤ counted v (changes c (one c acc r).chip) (altering (one c acc r).chip (one c acc r).acc (take (l + m) rs))
    go (Ok tt) h = omega arith
    go (Err why) h = omega arith

-- .. and so of a run
pub changing-longer : (c : Chip) (bytes : List ℕ) (l m : ℕ) → (ran c bytes l).changing ≤ (ran c bytes (l + m)).changing
unfolding ran
changing-longer c bytes l m = go (eqb (length bytes % 4) 0)
  where
    go : (z : Bool)
        → (cond z (handed (altering c 0 (take l (reads bytes))) (run_from c 0 0 l (reads bytes))) (ran_to c 0 0 (Stopped 0 Form))).changing
        ≤ (cond z (handed (altering c 0 (take (l + m) (reads bytes))) (run_from c 0 0 (l + m) (reads bytes))) (ran_to c 0 0 (Stopped 0 Form))).changing
    go true = altering-longer (reads bytes) c 0 l m
    go false = omega arith

-- ---- none: registers and colours never moved at any command
no_change : (b : Bool) → ◌≡◌ {A = ℕ} (cond b 1 0) 0 → b ≡ false
no_change true h = absurd (omega arith)
no_change false h = refl

-- the first command, and those behind it
module _ (c : Chip) (acc : ℕ) (r : Option Command) (rs : List (Option Command)) (e : (one c acc r).verdict ≡ Ok tt) where
  first_state : state_at c acc (r ∷ rs) 1 ≡ (one c acc r).chip
  first_state = ap (λ (d : Did). d.chip) (carry_next c acc r [] e) ∙ carry-none (one c acc r).chip (one c acc r).acc

  later_state : (k : ℕ) → state_at c acc (r ∷ rs) (suc k) ≡ state_at (one c acc r).chip (one c acc r).acc rs k
  later_state k = ap (λ (d : Did). d.chip) (carry_next c acc r (take k rs) e)

  still-split : Still c acc (r ∷ rs) → (differ c (one c acc r).chip ≡ false) × Still (one c acc r).chip (one c acc r).acc rs
  still-split s =
      let n : carried c acc (r ∷ rs) ≡ suc (carried (one c acc r).chip (one c acc r).acc rs) = carried_next c acc r rs e in (
        rw (carry-none c acc, first_state) at (s 0 (omega arith)),
        λ k h. rw (later_state k, later_state (suc k)) at (s (suc k) (omega arith)),
      )

  still-join : differ c (one c acc r).chip ≡ false → Still (one c acc r).chip (one c acc r).acc rs → Still c acc (r ∷ rs)
  still-join f s zero h = rw (carry-none c acc, first_state) f
  still-join f s (suc k) h =
      let n : carried c acc (r ∷ rs) ≡ suc (carried (one c acc r).chip (one c acc r).acc rs) = carried_next c acc r rs e in
      rw (later_state k, later_state (suc k)) (s k (omega arith))

none-still : (rs : List (Option Command)) (c : Chip) (acc : ℕ) → altering c acc rs ≡ 0 → Still c acc rs
unfolding carried
none-still [] c acc h = λ k few. absurd (omega arith)
none-still (r ∷ rs) c acc h = go (one c acc r).verdict refl (none-still rs (one c acc r).chip (one c acc r).acc)
  where
    go : (v : Result (Unit {0}) Reason) → (one c acc r).verdict ≡ v
        → (altering (one c acc r).chip (one c acc r).acc rs ≡ 0 → Still (one c acc r).chip (one c acc r).acc rs) → Still c acc (r ∷ rs)
    go (Ok tt) e later =
        let n : changes c (one c acc r).chip + altering (one c acc r).chip (one c acc r).acc rs ≡ 0 = sym (altering_next c acc r rs e) ∙ h in
        still-join c acc r rs e (no_change (differ c (one c acc r).chip) (omega arith)) (later (omega arith))
    go (Err why) e later = λ k few. let z : carried c acc (r ∷ rs) ≡ 0 = rw e in absurd (omega arith)

still-none : (rs : List (Option Command)) (c : Chip) (acc : ℕ) → Still c acc rs → altering c acc rs ≡ 0
unfolding altering
still-none [] c acc s = refl
still-none (r ∷ rs) c acc s = go (one c acc r).verdict refl (still-none rs (one c acc r).chip (one c acc r).acc)
  where
    go : (v : Result (Unit {0}) Reason) → (one c acc r).verdict ≡ v
        → (Still (one c acc r).chip (one c acc r).acc rs → altering (one c acc r).chip (one c acc r).acc rs ≡ 0) → altering c acc (r ∷ rs) ≡ 0
    go (Ok tt) e later =
        let (first, behind) = still-split c acc r rs e s in
        let a : changes c (one c acc r).chip ≡ 0 = rw first in
        let b : altering (one c acc r).chip (one c acc r).acc rs ≡ 0 = later behind in
        altering_next c acc r rs e ∙ omega arith
    go (Err why) e later = rw e

-- it is 0 exactly where registers and colours never moved
pub changing-none : (rs : List (Option Command)) (c : Chip) (acc : ℕ) → (altering c acc rs ≡ 0) ↔ Still c acc rs
changing-none rs c acc = (none-still rs c acc, still-none rs c acc)
