-- Laws of `steps_checked`, for the steps of a file and for a list of steps: a turn of the loop that computes it, the answer by
-- the first step that does not pass, each answer given exactly when, and the number and value that go with it.
use mathlib.Core.Path.{◌≡◌, refl, sym, ap, ◌∙◌}
use mathlib.Core.List.{List}
use mathlib.Core.Bool.{Bool, true, false, cond, true≢false}
use Prim.Native.Nat.{ℕ, zero, suc, ◌+◌, ◌-◌, ◌<◌, ◌≤◌}
use native.Mathlib.Omega.{arith}
use borrow.Author.Tests.{lt-ltb, le-ltb, ltb-true, ltb-false}
use lib.Dec.{ltb}
use Rattle.lists.specs.Numbers.{Returned, returned}
use Rattle.lists.specs.Scan.{first_not}
use Rattle.lists.proofs.Scan.{first_le, first_fails}
use Rattle.script_steps.specs.Step.{is_good}
use Rattle.script_steps.specs.declared.Fault.{Fault}
use Rattle.script.specs.File.{step_at, first_bad_step, or_refused, steps_checked}
use Rattle.script.specs.Numbers.{of_refusal, of_checked, steps_table}
use Rattle.script.specs.declared.Layout.{Layout}
use Rattle.script.specs.declared.Refusal.{Refusal}
use Rattle.script_steps.specs.declared.Step.{Step}
use Rattle.script.specs.declared.Refusal.TheVariants.{Length, Block, Step as AtStep, Room}
use Rattle.std.specs.Prelude.{Result, Ok, Err}

-- ---- a turn of the loop, at step j of m
module _ (layout : Layout) (f : List ℕ) (j m : ℕ) where
  turn : j < m → steps_checked layout f j (m - j) ≡ or_refused (step_at layout f j) j (steps_checked layout f (j + 1) (m - (j + 1)))
  unfolding steps_checked
  turn h = let e : m - j ≡ suc (m - (j + 1)) = omega arith in rw e

  pub steps_more : {s : Step} → j < m → step_at layout f j ≡ Ok s → steps_checked layout f j (m - j) ≡ steps_checked layout f (j + 1) (m - (j + 1))
  steps_more h e = turn h ∙ ap (λ r. or_refused r j (steps_checked layout f (j + 1) (m - (j + 1)))) e

  pub steps_stop : {why : Fault} → j < m → step_at layout f j ≡ Err why → steps_checked layout f j (m - j) ≡ Err (AtStep j why)
  steps_stop h e = turn h ∙ ap (λ r. or_refused r j (steps_checked layout f (j + 1) (m - (j + 1)))) e

  pub steps_done : m ≤ j → j ≤ m → steps_checked layout f j (m - j) ≡ Ok m
  unfolding steps_checked
  steps_done h k = let e : m - j ≡ 0 = omega arith in let i : j ≡ m = omega arith in rw (e, i)

-- ---- the answer by the first step that does not pass
module _ (layout : Layout) (f : List ℕ) where
  abbrev good : ℕ → Bool
  good j = is_good (step_at layout f j)

  abbrev by_first : ℕ → ℕ → Result ℕ Refusal
  by_first j m = cond (ltb j m) (or_refused (step_at layout f j) j (Ok m)) (Ok m)

  from_first : (i n : ℕ) → steps_checked layout f i n ≡ by_first (first_not good i n) (i + n)
  unfolding steps_checked first_not
  from_first i zero = let e : i ≡ i + 0 = omega arith in ap Ok e ∙ sym (rw (le-ltb i (i + 0) (omega arith)))
  from_first i (suc n) = go (step_at layout f i) refl (from_first (i + 1) n)
    where
      go : (r : Result Step Fault) → step_at layout f i ≡ r → steps_checked layout f (i + 1) n ≡ by_first (first_not good (i + 1) n) (i + 1 + n)
          → or_refused r i (steps_checked layout f (i + 1) n) ≡ by_first (cond (is_good r) (first_not good (i + 1) n) i) (i + suc n)
      go (Ok s) e later = let k : i + 1 + n ≡ i + suc n = omega arith in later ∙ ap (by_first (first_not good (i + 1) n)) k
      go (Err why) e later = sym (rw (lt-ltb i (i + suc n) (omega arith), e))

  pub steps_first : (m : ℕ) → steps_checked layout f 0 m ≡ by_first (first_bad_step layout f m) m
  steps_first m = let e : 0 + m ≡ m = omega arith in from_first 0 m ∙ ap (by_first (first_bad_step layout f m)) e

-- ---- what an answer says: step j is the first that does not pass, and this is what is wrong with it
pub record BadAt (layout : Layout) (f : List ℕ) (m j : ℕ) (why : Fault) : Type 0 where
  pub first : first_bad_step layout f m ≡ j
  pub there : j < m
  pub read : step_at layout f j ≡ Err why

-- .. or there are m, and all of them pass
pub record AllGood (layout : Layout) (f : List ℕ) (m n : ℕ) : Type 0 where
  pub count : m ≡ n
  pub none : first_bad_step layout f m ≡ m

module _ (layout : Layout) (f : List ℕ) (m : ℕ) where
  abbrev pub StepsSay : Result ℕ Refusal → Type 0
  StepsSay (Ok n) = AllGood layout f m n
  StepsSay (Err (AtStep j why)) = BadAt layout f m j why
  StepsSay (Err Length) = ⊥
  StepsSay (Err (Block k)) = ⊥
  StepsSay (Err Room) = ⊥

  -- it says what is so
  pub steps_say : StepsSay (steps_checked layout f 0 m)
  steps_say = rw (steps_first layout f m) (go (ltb (first_bad_step layout f m) m) refl)
    where
      bad : (j : ℕ) → first_bad_step layout f m ≡ j → j < m → (r : Result Step Fault) → step_at layout f j ≡ r → is_good r ≡ false → StepsSay (or_refused r j (Ok m))
      bad j e h (Ok s) is g = absurd (true≢false g)
      bad j e h (Err why) is g = record { first = e; there = h; read = is }

      go : (b : Bool) → ltb (first_bad_step layout f m) m ≡ b
          → StepsSay (cond b (or_refused (step_at layout f (first_bad_step layout f m)) (first_bad_step layout f m) (Ok m)) (Ok m))
      go true e =
          let h : first_bad_step layout f m < m = ltb-true _ _ e in
          bad (first_bad_step layout f m) refl h (step_at layout f (first_bad_step layout f m)) refl (first_fails (good layout f) m h)
      go false e = record { count = refl; none = omega (arith, ltb-false (first_bad_step layout f m) m e, first_le (good layout f) 0 m) }

  -- and what is so decides it
  pub say_steps : (r : Result ℕ Refusal) → StepsSay r → steps_checked layout f 0 m ≡ r
  say_steps (Ok n) a = steps_first layout f m ∙ rw (a.none, le-ltb m m (omega arith), a.count)
  say_steps (Err (AtStep j why)) b = steps_first layout f m ∙ rw (b.first, lt-ltb _ _ b.there, b.read)
  say_steps (Err Length) w = absurd w
  say_steps (Err (Block k)) w = absurd w
  say_steps (Err Room) w = absurd w

-- number and value, whatever they are where all steps pass: those of the table
pub steps_number : (g : Result ℕ Refusal → Returned) → ((r : Refusal) → g (Err r) ≡ of_refusal r)
    → (layout : Layout) (f : List ℕ) (m : ℕ) → g (steps_checked layout f 0 m) ≡ steps_table layout f m (g (Ok m))
steps_number g of layout f m = go (steps_checked layout f 0 m) (steps_say layout f m)
  where
    go : (r : Result ℕ Refusal) → StepsSay layout f m r → g r ≡ steps_table layout f m (g (Ok m))
    go (Ok n) a = rw (a.none, le-ltb m m (omega arith), a.count)
    go (Err (AtStep j why)) b = of (AtStep j why) ∙ sym (rw (b.first, lt-ltb _ _ b.there, b.read))
    go (Err Length) w = absurd w
    go (Err (Block k)) w = absurd w
    go (Err Room) w = absurd w

-- what the contract of `check_steps` says, from the one equation
pub steps_answered : (layout : Layout) (f : List ℕ) (m : ℕ) {r : Result ℕ Refusal} → r ≡ steps_checked layout f 0 m
    → (r ≡ steps_checked layout f 0 m) × (of_checked r ≡ steps_table layout f m (returned 0 m))
steps_answered layout f m e = (e, ap of_checked e ∙ steps_number of_checked (λ r. refl) layout f m)
