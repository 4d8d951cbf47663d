-- Each answer of the writer is given exactly when document 01 says (Numbers returned): `Says` reads off an
-- answer what it says of the list and the room, `written-says` that the answer given says what is so, and
-- `says-written` that what is so decides the answer. With it go the number and the value.
use mathlib.Core.Path.{◌≡◌, refl, sym, ap, subst, ◌∙◌}
use mathlib.Core.List.{List}
use mathlib.Core.Bool.{Bool, true, false, cond, not}
use Prim.Native.Nat.{ℕ, ◌*◌, ◌/◌, ◌≤◌, ◌<◌}
use native.Mathlib.Omega.{arith}
use borrow.Author.Tests.{lt-ltb, le-ltb, ltb-true, ltb-false}
use lib.Dec.{ltb}
use lib.ListN.{length}
use Rattle.lists.specs.Numbers.{Returned, returned}
use Rattle.lists.proofs.Tests.{of_cond}
use Rattle.script_steps.specs.declared.Fault.{Fault}
use Rattle.script.specs.File.{first_bad_step, steps_checked}
use Rattle.script.specs.declared.Layout.TheVariants.{Plain}
use Rattle.script.specs.declared.Refusal.{Refusal}
use Rattle.script.specs.declared.Refusal.TheVariants.{Length, Block, Step, Room}
use Rattle.script.proofs.StepLaws.{BadAt, StepsSay, steps_say, say_steps, steps_number}
use Rattle.script_writer.specs.Write.{whole_steps, blocks_for, if_room, written, of_written, written_table}
use Rattle.std.specs.Prelude.{Result, Ok, Err}

-- ---- number and value: the table is what the answer says
pub written-number : (s : List ℕ) (room : ℕ) → of_written (written s room) ≡ written_table s room
unfolding written
written-number s room =
    of_cond of_written (not (whole_steps s)) (Err Length) (if_room (steps_checked Plain s 0 (length s / 6)) s room)
    ∙ ap (λ (x : Returned). cond (not (whole_steps s)) (returned 8 0) x)
    (steps_number (λ c. of_written (if_room c s room)) (λ r. refl) Plain s (length s / 6)
    ∙ simp (of_cond of_written))

pub answered : (s : List ℕ) (room : ℕ) {r : Result ℕ Refusal} → written s room ≡ r → (r ≡ written s room) × (of_written r ≡ written_table s room)
answered s room e = (sym e, ap of_written (sym e) ∙ written-number s room)

-- ---- the answer, case by case in its order
module _ (s : List ℕ) (room : ℕ) where
  pub write_length : whole_steps s ≡ false → written s room ≡ Err Length
  unfolding written
  write_length w = rw w

  module _ (w : whole_steps s ≡ true) where
    pub write_step : (r : Refusal) → steps_checked Plain s 0 (length s / 6) ≡ Err r → written s room ≡ Err r
    unfolding written
    write_step r e = rw (w, e)

    module _ (m : ℕ) (e : steps_checked Plain s 0 (length s / 6) ≡ Ok m) where
      pub write_room : room < 512 * blocks_for s → written s room ≡ Err Room
      unfolding written
      write_room g = rw (w, e, lt-ltb _ _ g)

      pub write_done : 512 * blocks_for s ≤ room → written s room ≡ Ok (blocks_for s)
      unfolding written
      write_done g = rw (w, e, le-ltb _ _ g)

-- ---- what an answer says
pub record BadStep (s : List ℕ) (j : ℕ) (why : Fault) : Type 0 where
  pub whole : whole_steps s ≡ true
  pub bad : BadAt Plain s (length s / 6) j why

pub record Legal (s : List ℕ) : Type 0 where
  pub whole : whole_steps s ≡ true
  pub steps_legal : first_bad_step Plain s (length s / 6) ≡ length s / 6

pub record Done (s : List ℕ) (room n : ℕ) : Type 0 where
  pub legal : Legal s
  pub many : blocks_for s ≡ n
  pub fits : 512 * n ≤ room

abbrev pub Says : List ℕ → ℕ → Result ℕ Refusal → Type 0
Says s room (Ok n) = Done s room n
Says s room (Err Length) = whole_steps s ≡ false
Says s room (Err (Step j why)) = BadStep s j why
Says s room (Err Room) = Legal s × (room < 512 * blocks_for s)
Says s room (Err (Block k)) = ⊥

-- it says what is so
pub written-says : (s : List ℕ) (room : ℕ) → Says s room (written s room)
written-says s room = go (whole_steps s) refl (ltb room (512 * blocks_for s)) refl (steps_checked Plain s 0 (length s / 6)) refl (steps_say Plain s (length s / 6))
  where
    go : (a : Bool) → whole_steps s ≡ a → (b : Bool) → ltb room (512 * blocks_for s) ≡ b
        → (c : Result ℕ Refusal) → steps_checked Plain s 0 (length s / 6) ≡ c → StepsSay Plain s (length s / 6) c → Says s room (written s room)
    go false ea b eb c ec says = rw (write_length s room ea) ea
    go true ea b eb (Err (Step j why)) ec bad = rw (write_step s room ea (Step j why) ec) (record { whole = ea; bad = bad })
    go true ea b eb (Err Length) ec bad = absurd bad
    go true ea b eb (Err (Block k)) ec bad = absurd bad
    go true ea b eb (Err Room) ec bad = absurd bad
    go true ea true eb (Ok m) ec good =
        let h : room < 512 * blocks_for s = ltb-true _ _ eb in
        rw (write_room s room ea m ec h) (record { whole = ea; steps_legal = good.none }, h)
    go true ea false eb (Ok m) ec good =
        let h : 512 * blocks_for s ≤ room = ltb-false _ _ eb in
        rw (write_done s room ea m ec h) (record { legal = record { whole = ea; steps_legal = good.none }; many = refl; fits = h })

-- and what is so decides it
legal_steps : (s : List ℕ) → Legal s → steps_checked Plain s 0 (length s / 6) ≡ Ok (length s / 6)
legal_steps s l = say_steps Plain s (length s / 6) (Ok (length s / 6)) (record { count = refl; none = l.steps_legal })

pub says-written : (s : List ℕ) (room : ℕ) (r : Result ℕ Refusal) → Says s room r → written s room ≡ r
says-written s room (Ok n) d =
    let l = d.legal in
    write_done s room l.whole (length s / 6) (legal_steps s l) (omega arith) ∙ ap Ok d.many
says-written s room (Err Length) w = write_length s room w
says-written s room (Err (Step j why)) b =
    write_step s room b.whole (Step j why) (say_steps Plain s (length s / 6) (Err (Step j why)) b.bad)
says-written s room (Err Room) p =
    let l = p.0 in
    write_room s room l.whole (length s / 6) (legal_steps s l) p.1
says-written s room (Err (Block k)) w = absurd w

pub answer_says : (s : List ℕ) (room : ℕ) {r : Result ℕ Refusal} → written s room ≡ r → Says s room r
answer_says s room e = subst (Says s room) e (written-says s room)
