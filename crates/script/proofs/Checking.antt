-- Each answer of the check is given exactly when document 01 says (Numbers returned): `Says` reads off an
-- answer what it says of the file, `checked-says` that the answer given says what is so, and `says-checked`
-- that what is so decides the answer. With it go the number and the value.
use mathlib.Core.Path.{◌≡◌, refl, sym, ap, subst, ◌∙◌}
use mathlib.Core.List.{List}
use mathlib.Core.Bool.{Bool, true, false, cond, not}
use Prim.Native.Nat.{ℕ, ◌≤◌, ◌<◌}
use native.Mathlib.Omega.{arith}
use borrow.Author.Tests.{lt-ltb, le-ltb, ltb-true, ltb-false}
use lib.Dec.{ltb}
use Rattle.lists.proofs.Scan.{first_le}
use Rattle.lists.proofs.Tests.{of_cond}
use Rattle.lists.specs.Numbers.{Returned, returned}
use Rattle.script_steps.specs.declared.Fault.{Fault}
use Rattle.script.specs.File.{whole_blocks, blocks, legal_at, first_bad_block, step_count, first_bad_step, steps_checked, checked}
use Rattle.script.specs.Numbers.{of_refusal, of_checked, checks_table, checked_table}
use Rattle.script.specs.declared.Layout.TheVariants.{Blocks}
use Rattle.script.specs.declared.Refusal.{Refusal}
use Rattle.script.specs.declared.Refusal.TheVariants.{Length, Block, Step as AtStep, Room}
use Rattle.script.proofs.StepLaws.{BadAt, StepsSay, steps_say, say_steps, steps_number}
use Rattle.std.specs.Prelude.{Result, Ok, Err}

-- ---- number and value: the table of document 01 is what the answer says
pub checked-number : (f : List ℕ) → of_checked (checked f) ≡ checked_table f
unfolding checked
checked-number f =
    simp (of_cond of_checked)
    (ap (λ (x : Returned). cond (not (whole_blocks f)) (returned 8 0) (cond (ltb (first_bad_block f) (blocks f)) (returned 6 (first_bad_block f)) x))
    (steps_number of_checked (λ r. refl) Blocks f (step_count f)))

-- ---- the answer, case by case in its order
pub check_length : (f : List ℕ) → whole_blocks f ≡ false → checked f ≡ Err Length
unfolding checked
check_length f w = rw w

module _ (f : List ℕ) (w : whole_blocks f ≡ true) (k : ℕ) (e : k ≡ first_bad_block f) where
  pub check_block : k < blocks f → checked f ≡ Err (Block k)
  unfolding checked
  check_block h = rw (w, ← e, lt-ltb _ _ h)

  pub check_all : blocks f ≤ k → checked f ≡ steps_checked Blocks f 0 (step_count f)
  unfolding checked
  check_all h = rw (w, ← e, le-ltb _ _ h)

-- ---- what an answer says
pub record BadBlock (f : List ℕ) (k : ℕ) : Type 0 where
  pub whole : whole_blocks f ≡ true
  pub first : first_bad_block f ≡ k
  pub there : k < blocks f

pub record BadStep (f : List ℕ) (j : ℕ) (why : Fault) : Type 0 where
  pub whole : whole_blocks f ≡ true
  pub blocks-legal : first_bad_block f ≡ blocks f
  pub bad : BadAt Blocks f (step_count f) j why

pub record Legal (f : List ℕ) (m : ℕ) : Type 0 where
  pub whole : whole_blocks f ≡ true
  pub blocks-legal : first_bad_block f ≡ blocks f
  pub count : step_count f ≡ m
  pub steps_legal : first_bad_step Blocks f m ≡ m

abbrev pub Says : List ℕ → Result ℕ Refusal → Type 0
Says f (Ok m) = Legal f m
Says f (Err Length) = whole_blocks f ≡ false
Says f (Err (Block k)) = BadBlock f k
Says f (Err (AtStep j why)) = BadStep f j why
Says f (Err Room) = ⊥

-- it says what is so
pub checked-says : (f : List ℕ) → Says f (checked f)
checked-says f =
    go (whole_blocks f) refl (ltb (first_bad_block f) (blocks f)) refl
  where
    all_blocks : ltb (first_bad_block f) (blocks f) ≡ false → first_bad_block f ≡ blocks f
    all_blocks e = omega (arith, ltb-false (first_bad_block f) (blocks f) e, first_le (legal_at f) 0 (blocks f))

    all_steps : whole_blocks f ≡ true → first_bad_block f ≡ blocks f → (r : Result ℕ Refusal) → StepsSay Blocks f (step_count f) r → Says f r
    all_steps w b (Ok m) a =
        record { whole = w; blocks-legal = b; count = a.count; steps_legal = rw a.count at a.none }
    all_steps w b (Err (AtStep j why)) a = record { whole = w; blocks-legal = b; bad = a }
    all_steps w b (Err Length) a = absurd a
    all_steps w b (Err (Block k)) a = absurd a
    all_steps w b (Err Room) a = absurd a

    go : (a : Bool) → whole_blocks f ≡ a → (b : Bool) → ltb (first_bad_block f) (blocks f) ≡ b → Says f (checked f)
    go false ea b eb = rw (check_length f ea) ea
    go true ea true eb =
        let h : first_bad_block f < blocks f = ltb-true _ _ eb in
        rw (check_block f ea (first_bad_block f) refl h) (record { whole = ea; first = refl; there = h })
    go true ea false eb =
        rw (check_all f ea (first_bad_block f) refl (ltb-false _ _ eb))
        (all_steps ea (all_blocks eb) (steps_checked Blocks f 0 (step_count f)) (steps_say Blocks f (step_count f)))

-- and what is so decides it
pub says-checked : (f : List ℕ) (r : Result ℕ Refusal) → Says f r → checked f ≡ r
says-checked f (Ok m) l =
    check_all f l.whole (blocks f) (sym l.blocks-legal) (omega arith)
    ∙ say_steps Blocks f (step_count f) (Ok m) (record { count = l.count; none = rw l.count l.steps_legal })
says-checked f (Err Length) w = check_length f w
says-checked f (Err (Block k)) b = check_block f b.whole k (sym b.first) b.there
says-checked f (Err (AtStep j why)) b =
    check_all f b.whole (blocks f) (sym b.blocks-legal) (omega arith) ∙ say_steps Blocks f (step_count f) (Err (AtStep j why)) b.bad
says-checked f (Err Room) w = absurd w

pub answer_says : (f : List ℕ) {r : Result ℕ Refusal} → checked f ≡ r → Says f r
answer_says f e = subst (Says f) e (checked-says f)

-- ---- the table of whatever begins with the check: past an accepted file what comes after, and else the refusal's number and
-- value
pub accepted_table : (f : List ℕ) (m : ℕ) → checked f ≡ Ok m → (x : Returned) → checks_table f x ≡ x
accepted_table f m acc x =
    let l : Legal f m = answer_says f acc in
    let b : ltb (first_bad_block f) (blocks f) ≡ false = le-ltb (first_bad_block f) (blocks f) (omega arith) in
    let s : ltb (first_bad_step Blocks f (step_count f)) (step_count f) ≡ false =
    ap (λ (n : ℕ). ltb (first_bad_step Blocks f n) n) l.count ∙ le-ltb (first_bad_step Blocks f m) m (omega arith) in
    rw (l.whole, b, s)

pub refused_table : (f : List ℕ) (why : Refusal) → checked f ≡ Err why → (x : Returned) → checks_table f x ≡ of_refusal why
refused_table f why e x = go why (answer_says f e)
  where
    go : (r : Refusal) → Says f (Err r) → checks_table f x ≡ of_refusal r
    go Length w = rw w
    go (Block k) b = rw (b.whole, b.first, lt-ltb _ _ b.there)
    go (AtStep j why) b =
        let q : ltb (first_bad_block f) (blocks f) ≡ false = le-ltb (first_bad_block f) (blocks f) (omega arith) in
        rw (b.whole, q, b.bad.first, lt-ltb _ _ b.bad.there, b.bad.read)
    go Room w = absurd w
