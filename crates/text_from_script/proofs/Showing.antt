-- The text's lines are at most 20 bytes each, and the answers of `show` in each of its ways.
use Prim.Native.Nat.{ℕ, zero, suc, ◌+◌, ◌*◌, ◌≤◌, ◌<◌}
use native.Mathlib.Omega.{arith}
use native.Mathlib.Numerals.{add-one}
use mathlib.Core.Bool.{Bool, true, false, cond}
use mathlib.Core.Path.{◌≡◌, refl, sym, ap, ◌∙◌}
use mathlib.Core.List.{List, [], ◌++◌}
use lib.Dec.{ltb}
use lib.ListN.{length, take, length-append}
use borrow.Author.Tests.{lt-ltb, le-ltb, ltb-false}
use Rattle.lists.specs.Numbers.{returned}
use Rattle.lists.proofs.Tests.{of_cond}
use Rattle.lists.specs.Put.{Added}
use Rattle.lists.proofs.Put.{added_append}
use Rattle.script_steps.specs.declared.Step.{Step}
use Rattle.text_steps.specs.Written.{step_line}
use Rattle.script.specs.File.{step_count, checked}
use Rattle.script.specs.Reader.{next_of}
use Rattle.script.specs.declared.Refusal.{Refusal}
use Rattle.script.specs.declared.Refusal.TheVariants.{Length, Room}
use Rattle.script.proofs.Checking.{answer_says, check_length, accepted_table, refused_table}
use Rattle.script.proofs.Counting.{accepted_few, long_refused, start_decides}
use Rattle.text_steps.proofs.Lengths.{line_most}
use Rattle.text_from_script.specs.Show.{line_of_next, text_to, text_of, shown_by, shown, left_by, of_shown, shown_table, LinesPut}
use Rattle.std.specs.Prelude.{Result, Option, Ok, Err, Some, None}

pub next_most : (x : Result (Option Step) Refusal) → length (line_of_next x) ≤ 20
next_most (Ok (Some s)) = line_most s
next_most (Err r) = omega arith
next_most (Ok None) = omega arith

pub text_most : (f : List ℕ) (n : ℕ) → length (text_to f n) ≤ 20 * n
unfolding text_to
text_most f zero = omega arith
text_most f (suc n) =
    let h : length (text_to f n) ≤ 20 * n = text_most f n in
    let k : length (line_of_next (next_of f n)) ≤ 20 = next_most (next_of f n) in
    simp length-append (omega arith)

pub text_start : (f : List ℕ) → text_to f 0 ≡ []
unfolding text_to
text_start f = refl

pub text_next : (f : List ℕ) (n : ℕ) → text_to f (n + 1) ≡ text_to f n ++ line_of_next (next_of f n)
unfolding text_to
text_next f n = rw (add-one n)

-- the line of one step more
pub text_step : (f o : List ℕ) (j : ℕ) (s : Step) {o₁ o₂ : List ℕ} {e₁ e₂ : ℕ} → next_of f j ≡ Ok (Some s) → Added o 0 (text_to f j) o₁ e₁
    → Added o₁ e₁ (step_line s) o₂ e₂ → e₂ ≤ length o → Added o 0 (text_to f (j + 1)) o₂ e₂
text_step f o j s is added more room = rw (text_next f j, is) (added_append added more room)

-- all of them written: they are counted
pub lines_put : (f o : List ℕ) (m : ℕ) {o' : List ℕ} {e : ℕ} → Added o 0 (text_to f m) o' e → LinesPut f m o o' (Ok e)
lines_put f o m {o'} {e} a = let n : e ≡ length (text_to f m) = omega arith in record { answer = ap Ok n; text = a.now }

-- ---- the answers
-- 20,160 bytes are room for the text of any file
pub shown-whole : (f : List ℕ) (m room : ℕ) → checked f ≡ Ok m → 20160 ≤ room → shown f room ≡ Ok (length (text_of f))
unfolding shown
shown-whole f m room e h = rw (e, le-ltb room (20 * m) (omega (arith, (accepted_few f m e).1)))

-- reading may stop at 6,145 bytes
shown_long : (f : List ℕ) (room : ℕ) → 6144 < length f → shown f room ≡ Err Length
unfolding shown
shown_long f room h = rw (check_length f (long_refused f h))

pub shown_start : (f : List ℕ) (room : ℕ) → shown (take 6145 f) room ≡ shown f room
shown_start f room = start_decides (λ l. shown l room) (Err Length) (λ l h. shown_long l room h) f

-- the text lies within the output
pub shown-within : (f : List ℕ) (room n : ℕ) → shown f room ≡ Ok n → n ≤ room
unfolding shown
shown-within f room n e = go (checked f) refl e
  where
    within : (m : ℕ) → checked f ≡ Ok m → (b : Bool) → ltb room (20 * m) ≡ b → cond b (Err Room) (Ok (length (text_of f))) ≡ Ok n → n ≤ room
    within m acc true eb t = absurd (let z : ◌≡◌ {A = ℕ} 0 1 = cc in omega arith)
    within m acc false eb t =
        let same : length (text_of f) ≡ n = cc in
        let count : step_count f ≡ m = (answer_says f acc).count in
        omega (arith, text_most f (step_count f), ltb-false room (20 * m) eb)

    go : (c : Result ℕ Refusal) → checked f ≡ c → shown_by c f room ≡ Ok n → n ≤ room
    go (Ok m) acc t = within m acc (ltb room (20 * m)) refl t
    go (Err r) acc t = absurd (let z : ◌≡◌ {A = ℕ} 0 1 = cc in omega arith)

module _ (f : List ℕ) (room : ℕ) where
  pub shown-refused : (r : Refusal) → checked f ≡ Err r → Err r ≡ shown f room
  unfolding shown
  shown-refused r e = rw e

  module _ (m : ℕ) (e : checked f ≡ Ok m) where
    pub shown_short : room < 20 * m → Err Room ≡ shown f room
    unfolding shown
    shown_short h = rw (e, lt-ltb _ _ h)

    pub shown-text : 20 * m ≤ room → {out o : List ℕ} {r : Result ℕ Refusal} → LinesPut f m out o r → (r ≡ shown f room) × (o ≡ left_by r f out)
    unfolding shown
    shown-text h {out} {o} {r} a =
        let count : step_count f ≡ m = (answer_says f e).count in
        (a.answer ∙ rw (e, le-ltb _ _ h, count), a.text ∙ rw (a.answer, count))

-- ---- number and value are those of the table
shown-number : (f : List ℕ) (room : ℕ) → of_shown (shown f room) ≡ shown_table f room
unfolding shown
shown-number f room = go (checked f) refl
  where
    go : (r : Result ℕ Refusal) → checked f ≡ r → of_shown (shown_by r f room) ≡ shown_table f room
    go (Ok m) acc =
        let count : step_count f ≡ m = (answer_says f acc).count in
        of_cond of_shown (ltb room (20 * m)) (Err Room) (Ok (length (text_of f)))
        ∙ ap (λ (n : ℕ). cond (ltb room (20 * n)) (returned 9 0) (returned 0 (length (text_of f)))) (sym count) ∙ sym (accepted_table f m acc _)
    go (Err why) acc = sym (refused_table f why acc _)

-- the number and the value of an answer that is right
pub shown-told : (f : List ℕ) (room : ℕ) {r : Result ℕ Refusal} → r ≡ shown f room → of_shown r ≡ shown_table f room
shown-told f room e = ap of_shown e ∙ shown-number f room
