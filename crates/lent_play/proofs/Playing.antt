-- From the translation and the run on lent bytes to what `played` says of the chip that they hold; and what that means by name.
use Prim.Native.Nat.{ℕ}
use mathlib.Core.Path.{◌≡◌, refl, ap, sym, ◌∙◌}
use mathlib.Core.Bool.{cond}
use mathlib.Core.List.{List}
use lib.ListN.{length}
use native.Mathlib.Omega.{arith}
use borrow.Author.Tests.{eq-eqb, ne_eqb}
use Rattle.lists.specs.Numbers.{Returned, returned}
use Rattle.lists.proofs.Tests.{of_cond}
use Rattle.script.specs.File.{step_count}
use Rattle.script.specs.declared.Refusal.{Refusal}
use Rattle.script_commands.specs.Command.{bytes_of_all}
use Rattle.script_commands.specs.Translation.{commands_to, translated, left_by}
use Rattle.chip_run.specs.Run.{ran, tally}
use Rattle.chip_run.specs.declared.Ending.{Ending}
use Rattle.chip_play.specs.Played.{Performance, played, performed}
use Rattle.chip_play.proofs.Playing.{played_commands, played-refused, by_name, played-number}
use Rattle.lent_chip.specs.Layout.{whole, view, spare, Holds}
use Rattle.lent_chip.specs.Accesses.{is_state, Left}
use Rattle.lent_chip.specs.Numbers.{no_state}
use Rattle.lent_chip.proofs.Holding.{as_it_is}
use Rattle.lent_chip.proofs.Reached.{left-held, left-kept}
use Rattle.lent_run.specs.Run.{run_answer}
use Rattle.lent_play.specs.Play.{play_answer, buffer_left, ByNameIn, of_lent_played, lent_play_table}
use Rattle.std.specs.Prelude.{Result, Ok, Err}
use Rattle.chip_run.specs.declared.Tally.{Tally}
use Rattle.lent_chip.specs.declared.access.StateError.{StateError}
use Rattle.lent_chip.specs.declared.access.StateError.TheVariants.{Length}

-- what the contract says of the answer and the state
pub record Did (l file : List ℕ) (room : ℕ) (m : List ℕ) (r : Result (Result Tally Refusal) StateError) : Type 0 where
  pub answer : r ≡ play_answer l file room
  pub left : Left l (played (view l) file room).chip (spare l) m
  pub as_named : ByNameIn l file room m r

-- its number and value are those of the table
lent_play_number : (l file : List ℕ) (room : ℕ) → of_lent_played (play_answer l file room) ≡ lent_play_table l file room
lent_play_number l file room =
    of_cond of_lent_played (is_state l) (Ok (played (view l) file room).outcome) (Err Length)
    ∙ ap (λ (x : Returned). cond (is_state l) x (returned no_state 0)) (played-number (view l) file room)

-- what the contract of `play` says, from that and the buffer
pub play_answered : {l file : List ℕ} {room : ℕ} {m : List ℕ} {r : Result (Result Tally Refusal) StateError} {out left : List ℕ} → Did l file room m r → out ≡ left
    → (r ≡ play_answer l file room) × (Left l (played (view l) file room).chip (spare l) m × (ByNameIn l file room m r × ((out ≡ left) × (of_lent_played r ≡ lent_play_table l file room))))
play_answered {l} {file} {room} d buffer =
    (d.answer, (d.left, (d.as_named, (buffer, ap of_lent_played d.answer ∙ lent_play_number l file room))))

-- a state, with the outcome that `played` has
module _ (l file : List ℕ) (room : ℕ) {m : List ℕ} (n : length l ≡ whole) (h : Holds m (played (view l) file room).chip (spare l)) where
  same : (o : Result Tally Refusal) → ◌≡◌ {A = Result (Result Tally Refusal) StateError} (Ok (played (view l) file room).outcome) (Ok o)
      → ◌≡◌ {A = Performance} (played (view l) file room) (record { chip = view m; outcome = o })
  same o e = let f : (played (view l) file room).outcome ≡ o = cc in λ i. record { chip = sym h.chip i; outcome = f i }

  did : {r : Result (Result Tally Refusal) StateError} {o : Result Tally Refusal} → r ≡ Ok o → o ≡ (played (view l) file room).outcome → Did l file room m r
  did e f =
      let a = e ∙ ap Ok f in
      record {
        answer = rw (eq-eqb (length l) whole n) a;
        left = left-held n h;
        as_named = record { as_named = λ _ o is. rw (← same o (sym a ∙ is)) (by_name (view l) file room) };
      }

-- bytes that are no state
pub undone : (l file : List ℕ) (room : ℕ) → (length l ≡ whole → ⊥) → Did l file room l (Err Length)
undone l file room n = record {
  answer = rw (ne_eqb (length l) whole n) refl;
  left = left-kept n;
  as_named = record { as_named = λ s. absurd (n s) };
}

-- the run of what the translation left
module _ (l file : List ℕ) (room : ℕ) {m bytes : List ℕ} {k : ℕ} {x : Result Tally StateError} (n : length l ≡ whole) (is : translated file room ≡ Ok k)
    (front : bytes ≡ bytes_of_all (commands_to file (step_count file))) (answer : x ≡ run_answer l bytes k)
    (left : Left l (ran (view l) bytes k).chip (spare l) m) where
  pub run_played : {t : Tally} → x ≡ Ok t → Did l file room m (Ok (Ok t))
  run_played {t} gave =
      let r = ran (view l) bytes k in
      let same : performed r ≡ played (view l) file room = played_commands (view l) file room k is front refl in
      let told : t ≡ tally r.count r.changing r.ending = cc (rw (eq-eqb (length l) whole n) at answer) in
      did l file room n (rw (← same) (left.held n)) refl (ap Ok told ∙ ap (λ (p : Performance). p.outcome) same)

-- a refused file
pub unplayed : (l file : List ℕ) (room : ℕ) {why : Refusal} → length l ≡ whole → translated file room ≡ Err why → Did l file room l (Ok (Err why))
unplayed l file room {why} n is =
    let e = played-refused (view l) file room why is in
    did l file room n (rw (← e) (as_it_is n)) refl (ap (λ (p : Performance). p.outcome) e)

-- the buffer
pub buffered : (l file buffer : List ℕ) {t : Result ℕ Refusal} {out : List ℕ} → length l ≡ whole → t ≡ translated file (length buffer) → out ≡ left_by t file buffer
    → out ≡ buffer_left l file buffer
buffered l file buffer n e left = rw (eq-eqb (length l) whole n, ← e) left
