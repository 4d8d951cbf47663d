-- Laws of the run: its count is the least of the limit, the commands there are and those before the first refused one; a run
-- of two lists is the run of the second from where the first left off; a larger limit extends the shorter run; the bytes of
-- commands run as those commands; and what port accesses keep, a run keeps.
use Prim.Native.Nat.{ℕ, zero, suc, ◌+◌, ◌-◌, ◌*◌, ◌/◌, ◌%◌, ◌≤◌, min}
use lib.Seq.{length-take-le}
use native.Mathlib.Nat.{zero-add}
use native.Mathlib.Omega.{arith}
use mathlib.Core.Bool.{Bool, true, false, cond}
use mathlib.Core.Path.{◌≡◌, refl, ◌∙◌, ap, sym}
use mathlib.Core.List.{List, [], ◌∷◌, ◌++◌}
use lib.Dec.{eqb}
use lib.ListN.{length, take, drop, take-append-drop}
use Rattle.chip.specs.State.{Chip}
use Rattle.chip.specs.Access.{port_written, port_read}
use Rattle.script_commands.specs.Command.{bytes_of, bytes_of_all}
use Rattle.script_commands.proofs.Codec.{bytes_read, length-bytes}
use Rattle.script_commands.specs.declared.Command.{Command}
use Rattle.script_commands.specs.declared.Command.TheVariants.{Out, In, Merge, OutAcc}
use Rattle.lists.specs.Numbers.{returned}
use Rattle.chip_run.specs.Run.{Went, went_to, Did, did, done, one, following, run_from, altering, ran_to, handed, after_done, carry, more, carried, reads, ran, least, of_ending}
use Rattle.chip_run.specs.declared.Reason.{Reason}
use Rattle.chip_run.specs.declared.Reason.TheVariants.{Form}
use Rattle.chip_run.specs.declared.Ending.TheVariants.{Ended, AtLimit, Stopped}
use Rattle.chip_run.proofs.Turns.{whole}
use Rattle.std.specs.Prelude.{Result, Option, Ok, Err, Some, None}

-- ---- the count
pub carried_most : (rs : List (Option Command)) (c : Chip) (acc : ℕ) → carried c acc rs ≤ length rs
unfolding carried
carried_most [] c acc = omega arith
carried_most (r ∷ rs) c acc = go (one c acc r).verdict (carried_most rs (one c acc r).chip (one c acc r).acc)
  where
    go : (v : Result (Unit {0}) Reason) → carried (one c acc r).chip (one c acc r).acc rs ≤ length rs
        → more v (carried (one c acc r).chip (one c acc r).acc rs) ≤ suc (length rs)
    go (Ok tt) h = omega arith
    go (Err why) h = omega arith

pub counts : (rs : List (Option Command)) (c : Chip) (acc k left : ℕ) → (run_from c acc k left rs).count ≡ k + min left (carried c acc rs)
unfolding run_from carried
counts [] c acc k left = omega arith
counts (r ∷ rs) c acc k zero = omega arith
counts (r ∷ rs) c acc k (suc left) =
    let d = one c acc r in go d.verdict (run_from d.chip d.acc (k + 1) left rs) (counts rs d.chip d.acc (k + 1) left)
  where
    go : (v : Result (Unit {0}) Reason) (x : Went) → x.count ≡ k + 1 + min left (carried (one c acc r).chip (one c acc r).acc rs)
        → (following v x (λ why. went_to c k (Stopped k why))).count ≡ k + min (suc left) (more v (carried (one c acc r).chip (one c acc r).acc rs))
    go (Ok tt) x h = omega arith
    go (Err why) x h = omega arith

-- four bytes to a command
pub length-reads : (bytes : List ℕ) → length (reads bytes) ≡ length bytes / 4
unfolding reads
length-reads [] = refl
length-reads (a ∷ []) = refl
length-reads (a ∷ b ∷ []) = refl
length-reads (a ∷ b ∷ c ∷ []) = refl
length-reads (a ∷ b ∷ c ∷ d ∷ l) = let h : length (reads l) ≡ length l / 4 = length-reads l in omega arith

-- the count of a run is the least of the limit, the commands there are and those before the first refused one
pub count_least : (c : Chip) (bytes : List ℕ) (limit : ℕ) → (ran c bytes limit).count ≡ least c bytes limit
unfolding ran
count_least c bytes limit = go (eqb (length bytes % 4) 0)
  where
    most : carried c 0 (reads bytes) ≤ length bytes / 4
    most = omega (arith, carried_most (reads bytes) c 0, length-reads bytes)

    go : (z : Bool) → (cond z (handed (altering c 0 (take limit (reads bytes))) (run_from c 0 0 limit (reads bytes))) (ran_to c 0 0 (Stopped 0 Form))).count
        ≡ cond z (min limit (min (length bytes / 4) (carried c 0 (reads bytes)))) 0
    go true = counts (reads bytes) c 0 0 limit ∙ omega (arith, most)
    go false = refl

-- ---- the endings: a stop's place is the count; it is the end exactly where every command was done; and a larger limit leaves a
-- stopped run as it is
never : {A : Type 0} → Ended ≡ AtLimit → A
never h = cc

module _ (p : ℕ) (why : Reason) where
  pub stop_place : (rs : List (Option Command)) (c : Chip) (acc k left : ℕ) → (run_from c acc k left rs).ending ≡ Stopped p why → (run_from c acc k left rs).count ≡ p
  unfolding run_from
  stop_place [] c acc k left h = cc
  stop_place (r ∷ rs) c acc k zero h = cc
  stop_place (r ∷ rs) c acc k (suc left) h = go (one c acc r).verdict (stop_place rs (one c acc r).chip (one c acc r).acc (k + 1) left) h
    where
      go : (v : Result (Unit {0}) Reason)
          → ((run_from (one c acc r).chip (one c acc r).acc (k + 1) left rs).ending ≡ Stopped p why
          → (run_from (one c acc r).chip (one c acc r).acc (k + 1) left rs).count ≡ p)
          → (following v (run_from (one c acc r).chip (one c acc r).acc (k + 1) left rs) (λ w. went_to c k (Stopped k w))).ending ≡ Stopped p why
          → (following v (run_from (one c acc r).chip (one c acc r).acc (k + 1) left rs) (λ w. went_to c k (Stopped k w))).count ≡ p
      go (Ok tt) f e = f e
      go (Err w) f e = cc

  pub stop_stays : (rs : List (Option Command)) (c : Chip) (acc k left more : ℕ) → (run_from c acc k left rs).ending ≡ Stopped p why
      → run_from c acc k (left + more) rs ≡ run_from c acc k left rs
  unfolding run_from
  stop_stays [] c acc k left more h = refl
  stop_stays (r ∷ rs) c acc k zero more h = cc
  stop_stays (r ∷ rs) c acc k (suc left) more h =
      let e : suc left + more ≡ suc (left + more) = omega arith in
      rw e (go (one c acc r).verdict (stop_stays rs (one c acc r).chip (one c acc r).acc (k + 1) left more) h)
    where
      go : (v : Result (Unit {0}) Reason)
          → ((run_from (one c acc r).chip (one c acc r).acc (k + 1) left rs).ending ≡ Stopped p why
          → run_from (one c acc r).chip (one c acc r).acc (k + 1) (left + more) rs ≡ run_from (one c acc r).chip (one c acc r).acc (k + 1) left rs)
          → (following v (run_from (one c acc r).chip (one c acc r).acc (k + 1) left rs) (λ w. went_to c k (Stopped k w))).ending ≡ Stopped p why
          → following v (run_from (one c acc r).chip (one c acc r).acc (k + 1) (left + more) rs) (λ w. went_to c k (Stopped k w))
          ≡ following v (run_from (one c acc r).chip (one c acc r).acc (k + 1) left rs) (λ w. went_to c k (Stopped k w))
      go (Ok tt) f e = f e
      go (Err w) f e = refl

pub end_all : (rs : List (Option Command)) (c : Chip) (acc k left : ℕ) → (run_from c acc k left rs).ending ≡ Ended → (run_from c acc k left rs).count ≡ k + length rs
unfolding run_from
end_all [] c acc k left h = omega arith
end_all (r ∷ rs) c acc k zero h = never (sym h)
end_all (r ∷ rs) c acc k (suc left) h = go (one c acc r).verdict (end_all rs (one c acc r).chip (one c acc r).acc (k + 1) left) h
  where
    go : (v : Result (Unit {0}) Reason)
        → ((run_from (one c acc r).chip (one c acc r).acc (k + 1) left rs).ending ≡ Ended
        → (run_from (one c acc r).chip (one c acc r).acc (k + 1) left rs).count ≡ k + 1 + length rs)
        → (following v (run_from (one c acc r).chip (one c acc r).acc (k + 1) left rs) (λ w. went_to c k (Stopped k w))).ending ≡ Ended
        → (following v (run_from (one c acc r).chip (one c acc r).acc (k + 1) left rs) (λ w. went_to c k (Stopped k w))).count ≡ k + suc (length rs)
    go (Ok tt) f e = let h = f e in omega arith
    go (Err w) f e = cc

pub all_end : (rs : List (Option Command)) (c : Chip) (acc k left : ℕ) → (run_from c acc k left rs).count ≡ k + length rs → (run_from c acc k left rs).ending ≡ Ended
unfolding run_from
all_end [] c acc k left h = refl
all_end (r ∷ rs) c acc k zero h = absurd (omega arith)
all_end (r ∷ rs) c acc k (suc left) h = go (one c acc r).verdict (all_end rs (one c acc r).chip (one c acc r).acc (k + 1) left) h
  where
    go : (v : Result (Unit {0}) Reason)
        → ((run_from (one c acc r).chip (one c acc r).acc (k + 1) left rs).count ≡ k + 1 + length rs
        → (run_from (one c acc r).chip (one c acc r).acc (k + 1) left rs).ending ≡ Ended)
        → (following v (run_from (one c acc r).chip (one c acc r).acc (k + 1) left rs) (λ w. went_to c k (Stopped k w))).count ≡ k + suc (length rs)
        → (following v (run_from (one c acc r).chip (one c acc r).acc (k + 1) left rs) (λ w. went_to c k (Stopped k w))).ending ≡ Ended
    go (Ok tt) f e = f (omega arith)
    go (Err w) f e = absurd (omega arith)

-- ---- one list behind another
pub different : (why : Reason) → ◌≡◌ {A = Result (Unit {0}) Reason} (Err why) (Ok tt) → ⊥
different why h = cc

pub carry-append : (xs ys : List (Option Command)) (c d : Chip) (a b : ℕ) → carry c a xs ≡ did (Ok tt) b d → carry c a (xs ++ ys) ≡ carry d b ys
unfolding carry
carry-append [] ys c d a b h = ap (λ (t : Did). carry t.chip t.acc ys) h
carry-append (x ∷ xs) ys c d a b h = go (one c a x) (one c a x).verdict refl (carry-append xs ys _ d _ b) h
  where
    go : (t : Did) (v : Result (Unit {0}) Reason) → t.verdict ≡ v
        → (carry t.chip t.acc xs ≡ did (Ok tt) b d → carry t.chip t.acc (xs ++ ys) ≡ carry d b ys)
        → after_done v (carry t.chip t.acc xs) t ≡ did (Ok tt) b d
        → after_done v (carry t.chip t.acc (xs ++ ys)) t ≡ carry d b ys
    go t (Ok tt) e f g = f g
    go t (Err why) e f g = absurd (different why (sym e ∙ ap (λ (u : Did). u.verdict) g))

-- commands that are carried out take their number of places and of the limit, and the run goes on behind them
pub run_append : (xs ys : List (Option Command)) (c d : Chip) (a b k n m left : ℕ) → n ≡ k + length xs → m ≡ length xs + left
    → carry c a xs ≡ did (Ok tt) b d → run_from c a k m (xs ++ ys) ≡ run_from d b n left ys
unfolding carry run_from
run_append [] ys c d a b k n m left hn hm h =
    let e : n ≡ k = omega arith in
    let f : m ≡ left = omega arith in
    rw (e, f) (ap (λ (t : Did). run_from t.chip t.acc k left ys) h)
run_append (x ∷ xs) ys c d a b k n m left hn hm h =
    let f : m ≡ suc (length xs + left) = omega arith in
    rw f (go (one c a x) (one c a x).verdict refl (run_append xs ys _ d _ b (k + 1) n (length xs + left) left (omega arith) refl) h)
  where
    go : (t : Did) (v : Result (Unit {0}) Reason) → t.verdict ≡ v
        → (carry t.chip t.acc xs ≡ did (Ok tt) b d → run_from t.chip t.acc (k + 1) (length xs + left) (xs ++ ys) ≡ run_from d b n left ys)
        → after_done v (carry t.chip t.acc xs) t ≡ did (Ok tt) b d
        → following v (run_from t.chip t.acc (k + 1) (length xs + left) (xs ++ ys)) (λ why. went_to c k (Stopped k why)) ≡ run_from d b n left ys
    go t (Ok tt) e f g = f g
    go t (Err why) e f g = absurd (different why (sym e ∙ ap (λ (u : Did). u.verdict) g))

-- a run at its limit stands where it is
pub record Stands (r : Went) (c : Chip) (k : ℕ) : Type 0 where
  pub chip : r.chip ≡ c
  pub count : r.count ≡ k
  pub unrefused : of_ending r.ending ≡ returned 0 0

pub at_limit : (c : Chip) (acc k : ℕ) (rs : List (Option Command)) → Stands (run_from c acc k 0 rs) c k
unfolding run_from
at_limit c acc k [] = record { chip = refl; count = refl; unrefused = refl }
at_limit c acc k (r ∷ rs) = record { chip = refl; count = refl; unrefused = refl }

-- a larger limit extends the shorter run: from the state that the first commands left, as far as they were carried out
pub run_longer : (rs : List (Option Command)) (c d : Chip) (b l m : ℕ) → l ≤ length rs → carry c 0 (take l rs) ≡ did (Ok tt) b d
    → ((run_from c 0 0 l rs).chip ≡ d) × (run_from c 0 0 (l + m) rs ≡ run_from d b l m (drop l rs))
run_longer rs c d b l m room h =
    let split : rs ≡ take l rs ++ drop l rs = sym (take-append-drop l rs) in
    let len : length (take l rs) ≡ l = length-take-le l rs room in
    let shorter : run_from c 0 0 l rs ≡ run_from d b l 0 (drop l rs) =
    ap (run_from c 0 0 l) split ∙ run_append (take l rs) (drop l rs) c d 0 b 0 l l 0 (omega arith) (omega arith) h in (
      ap (λ (r : Went). r.chip) shorter ∙ (at_limit d b l (drop l rs)).chip,
      ap (run_from c 0 0 (l + m)) split ∙ run_append (take l rs) (drop l rs) c d 0 b 0 l (l + m) m (omega arith) (omega arith) h,
    )

-- ---- the bytes of commands
abbrev pub knowns : List Command → List (Option Command)
knowns [] = []
knowns (x ∷ xs) = Some x ∷ knowns xs

reads-one : (x : Command) (l : List ℕ) → reads (bytes_of x ++ l) ≡ Some x ∷ reads l
unfolding reads
reads-one (Out p v) l = ap (λ (r : Option Command). r ∷ reads l) (bytes_read (Out p v))
reads-one (In p) l = ap (λ (r : Option Command). r ∷ reads l) (bytes_read (In p))
reads-one (Merge k s) l = ap (λ (r : Option Command). r ∷ reads l) (bytes_read (Merge k s))
reads-one (OutAcc p) l = ap (λ (r : Option Command). r ∷ reads l) (bytes_read (OutAcc p))

nothing-reads : reads [] ≡ []
unfolding reads
nothing-reads = refl

pub reads_bytes : (xs : List Command) → reads (bytes_of_all xs) ≡ knowns xs
unfolding bytes_of_all
reads_bytes [] = nothing-reads
reads_bytes (x ∷ xs) = reads-one x (bytes_of_all xs) ∙ ap (◌∷◌ (Some x)) (reads_bytes xs)

pub run_commands : (c : Chip) (xs : List Command) (limit : ℕ)
    → ran c (bytes_of_all xs) limit ≡ handed (altering c 0 (take limit (knowns xs))) (run_from c 0 0 limit (knowns xs))
run_commands c xs limit =
    let n : length (bytes_of_all xs) ≡ 4 * length xs = length-bytes xs in
    let z : limit - 0 ≡ limit = omega arith in
    sym (whole c (bytes_of_all xs) limit (omega arith))
    ∙ rw (z, zero-add) (ap (λ (rs : List (Option Command)). handed (altering c 0 (take limit rs)) (run_from c 0 0 limit rs)) (reads_bytes xs))

-- what port accesses keep, a run keeps
module _ (P : Chip → Type 0) (write : (c : Chip) (p v : ℕ) → P c → P (port_written c p v).chip) (read : (c : Chip) (p : ℕ) → P c → P (port_read c p).chip) where
  one_keeps : (c : Chip) (acc : ℕ) (r : Option Command) → P c → P (one c acc r).chip
  unfolding one done
  one_keeps c acc (Some (Out port value)) h = write c port value h
  one_keeps c acc (Some (In port)) h = read c port h
  one_keeps c acc (Some (Merge keep set)) h = h
  one_keeps c acc (Some (OutAcc port)) h = write c port acc h
  one_keeps c acc None h = h

  from_keeps : (rs : List (Option Command)) (c : Chip) (acc k left : ℕ) → P c → P (run_from c acc k left rs).chip
  unfolding run_from
  from_keeps [] c acc k left h = h
  from_keeps (r ∷ rs) c acc k zero h = h
  from_keeps (r ∷ rs) c acc k (suc left) h =
      go (one c acc r).verdict (run_from (one c acc r).chip (one c acc r).acc (k + 1) left rs)
      (from_keeps rs (one c acc r).chip (one c acc r).acc (k + 1) left (one_keeps c acc r h))
    where
      go : (v : Result (Unit {0}) Reason) (x : Went) → P x.chip → P (following v x (λ why. went_to c k (Stopped k why))).chip
      go (Ok tt) x y = y
      go (Err why) x y = h

  pub run_keeps : (c : Chip) (bytes : List ℕ) (limit : ℕ) → P c → P (ran c bytes limit).chip
  unfolding ran
  run_keeps c bytes limit h = go (eqb (length bytes % 4) 0)
    where
      go : (z : Bool) → P (cond z (handed (altering c 0 (take limit (reads bytes))) (run_from c 0 0 limit (reads bytes))) (ran_to c 0 0 (Stopped 0 Form))).chip
      go true = from_keeps (reads bytes) c 0 0 limit h
      go false = h
