-- Laws of the reader: what it answers before and after the last step; over an accepted file it hands out
-- every step, and over one refused with 7 or 11 it hands out those before the refused one and refuses there.
use mathlib.Core.Path.{◌≡◌, refl, sym, ap, ◌∙◌}
use mathlib.Core.List.{List}
use mathlib.Core.Bool.{Bool, true, false, cond, true≢false}
use Prim.Native.Nat.{ℕ, zero, suc, ◌≤◌, ◌<◌, min}
use native.Mathlib.Decide.{dec_lt}
use native.Mathlib.Omega.{arith}
use borrow.Author.Tests.{lt-ltb, le-ltb, ltb-true}
use lib.Dec.{ltb}
use lib.ListN.{take, drop}
use Rattle.lists.specs.Numbers.{Returned, returned}
use Rattle.lists.proofs.Scan.{first-before, end_first}
use Rattle.lists.proofs.Tests.{of_cond}
use Rattle.script_steps.specs.Step.{legal, idle, bytes_of, is_good, of_step_read}
use Rattle.script_steps.specs.declared.Fault.{Fault}
use Rattle.script_steps.specs.declared.Step.{Step}
use Rattle.script_steps.proofs.Codec.{written_read}
use Rattle.script.specs.File.{step_count, step_place, step_at, checked}
use Rattle.script.specs.Numbers.{of_next, next_table}
use Rattle.script.specs.Reader.{as_next, next_of, after, stood, turned}
use Rattle.script.specs.declared.Layout.TheVariants.{Blocks}
use Rattle.script.specs.declared.Refusal.TheVariants.{Step as NoSuch}
use Rattle.script.specs.declared.Turn.{Turn}
use Rattle.script.proofs.Checking.{Legal, BadStep, answer_says}
use Rattle.std.specs.Prelude.{Result, Option, Ok, Err, Some, None}
use Rattle.script.specs.declared.Refusal.{Refusal}

module _ (f : List ℕ) (j : ℕ) where
  pub next_there : j < step_count f → next_of f j ≡ as_next (step_at Blocks f j) j
  unfolding next_of
  next_there h = rw (lt-ltb _ _ h)

  pub next_past : step_count f ≤ j → next_of f j ≡ Ok None
  unfolding next_of
  next_past h = rw (le-ltb _ _ h)

  pub found_before : (s : Step) → next_of f j ≡ Ok (Some s) → j < step_count f
  unfolding next_of
  found_before s e = go (ltb j (step_count f)) refl
    where
      go : (b : Bool) → ltb j (step_count f) ≡ b → j < step_count f
      go true q = ltb-true j (step_count f) q
      go false q = absurd (let t : Ok None ≡ Ok (Some s) = rw q at e in let z : ◌≡◌ {A = ℕ} 0 1 = cc in omega arith)

  -- "After the last step it answers the end", however often it is asked: the position stays where it is
  pub turn_past : step_count f ≤ j → ◌≡◌ {A = Turn} (turned f j) (record { next = Ok None; place = record { at = j } })
  turn_past h = rw (next_past h)

-- document 01's number and value: those of the step that is read there, before the end
pub next_number : (f : List ℕ) (j : ℕ) → of_next (next_of f j) ≡ next_table f j
unfolding next_of
next_number f j =
    of_cond of_next (ltb j (step_count f)) (as_next (step_at Blocks f j) j) (Ok None)
    ∙ ap (λ (x : Returned). cond (ltb j (step_count f)) x (returned 0 0)) (as_next_lem (step_at Blocks f j))
  where
    as_next_lem : (r : Result Step Fault) → of_next (as_next r j) ≡ of_step_read j r
    as_next_lem (Ok s) = refl
    as_next_lem (Err why) = refl

-- ---- what is handed out at step j: a step that passes, whose six bytes stand at its place
pub record Handed (f : List ℕ) (j : ℕ) : Type 0 where
  pub step : Step
  pub answer : next_of f j ≡ Ok (Some step)
  pub bytes : bytes_of step ≡ take 6 (drop (step_place Blocks j) f)
  pub lawful : legal step ≡ true
  pub useful : idle step ≡ false

handed : (f : List ℕ) (j : ℕ) → j < step_count f → is_good (step_at Blocks f j) ≡ true → Handed f j
handed f j h g = go (step_at Blocks f j) refl g
  where
    go : (r : Result Step Fault) → step_at Blocks f j ≡ r → is_good r ≡ true → Handed f j
    go (Ok s) e g =
        let w = written_read (take 6 (drop (step_place Blocks j) f)) s e in
        record { step = s; answer = next_there f j h ∙ ap (λ r. as_next r j) e; bytes = w.0; lawful = w.1.lawful; useful = w.1.useful }
    go (Err why) e g = absurd (true≢false (sym g))

-- over an accepted file every step is handed out
pub accepted-handed : (f : List ℕ) (m : ℕ) → checked f ≡ Ok m → (j : ℕ) → j < m → Handed f j
accepted-handed f m acc j h =
    let l : Legal f m = answer_says f acc in
    handed f j (omega arith) (end_first (λ i. is_good (step_at Blocks f i)) m l.steps_legal j h)

-- .. and then the end
pub accepted_end : (f : List ℕ) (m : ℕ) → checked f ≡ Ok m → (j : ℕ) → m ≤ j → next_of f j ≡ Ok None
accepted_end f m acc j h = let l : Legal f m = answer_says f acc in next_past f j (omega arith)

-- step after step: n turns stand at step n, and past the last step they stand still
pub accepted-stood : (f : List ℕ) (m : ℕ) → checked f ≡ Ok m → (n : ℕ) → stood f n ≡ min n m
unfolding stood
accepted-stood f m acc zero = omega arith
accepted-stood f m acc (suc n) = go (stood f n) (accepted-stood f m acc n) (dec_lt n m)
  where
    go : (p : ℕ) → p ≡ min n m → Dec (n < m) → after (next_of f p) p ≡ min (suc n) m
    go p e (yes h) =
        let e' : p ≡ n = omega arith in
        ap (λ (q : ℕ). after (next_of f q) q) e'
        ∙ ap (λ (x : Result (Option Step) Refusal). after x n) (accepted-handed f m acc n h).answer
        ∙ omega arith
    go p e (no h) =
        let e' : p ≡ m = omega arith in
        ap (λ (q : ℕ). after (next_of f q) q) e'
        ∙ ap (λ (x : Result (Option Step) Refusal). after x m) (accepted_end f m acc m (omega arith))
        ∙ omega arith

-- ---- a file refused with 7 or 11
pub record Stopped (f : List ℕ) (j : ℕ) (why : Fault) : Type 0 where
  pub before : (i : ℕ) → i < j → Handed f i
  pub there : next_of f j ≡ Err (NoSuch j why)

pub refused-stopped : (f : List ℕ) (j : ℕ) (why : Fault) → checked f ≡ Err (NoSuch j why) → Stopped f j why
refused-stopped f j why e =
    let s : BadStep f j why = answer_says f e in
    let b = s.bad in
    record {
      before = λ i h. handed f i (omega arith) (first-before (λ i. is_good (step_at Blocks f i)) (step_count f) i (omega arith));
      there = next_there f j b.there ∙ ap (λ r. as_next r j) b.read;
    }
