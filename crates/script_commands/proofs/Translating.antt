-- The translation's loop: a turn writes one step's commands behind those of the steps before it; and its answers.
use Prim.Native.Nat.{ℕ, ◌+◌, ◌*◌, ◌/◌, ◌≤◌}
use native.Mathlib.Omega.{arith}
use mathlib.Core.Bool.{Bool, true, false, cond}
use mathlib.Core.Path.{◌≡◌, refl, sym, ap, ◌∙◌}
use mathlib.Core.List.{List, [], ◌∷◌, ◌++◌}
use lib.Dec.{ltb}
use lib.ListN.{length}
use borrow.Author.Tests.{le-ltb, ltb-false}
use Rattle.lists.specs.Numbers.{returned}
use Rattle.lists.specs.Put.{put, Added}
use Rattle.lists.proofs.Tests.{of_cond}
use Rattle.script_steps.specs.declared.Step.{Step}
use Rattle.script.specs.File.{step_count, checked}
use Rattle.script.specs.Reader.{next_of}
use Rattle.script.specs.declared.Refusal.{Refusal}
use Rattle.script.specs.declared.Refusal.TheVariants.{Room}
use Rattle.script.proofs.Checking.{Legal, answer_says, accepted_table, refused_table}
use Rattle.script_commands.specs.Command.{bytes_of_all}
use Rattle.script_commands.specs.Translation.{steps_to, commands_to, if_room, translated, put_by, of_translated, room_table, translated_table}
use Rattle.script_commands.specs.Working.{StepsPut}
use Rattle.script_commands.specs.declared.Command.{Command}
use Rattle.lists.proofs.Put.{added_append, added_length}
use Rattle.script_commands.proofs.Codec.{bytes-append, length-bytes}
use Rattle.script_commands.proofs.Counted.{steps_next}
use Rattle.script_commands.proofs.Knowing.{known_most}
use Rattle.script_commands.specs.Known.{expanded_known}
use Rattle.std.specs.Prelude.{Result, Ok, Err, Some}

-- a step put behind those before it, with or without its index, where there is room for 32 bytes
pub added_step : (f o : List ℕ) (j : ℕ) {s : Step} (list : List Step → List Command) (known : Bool) {o₁ o₂ : List ℕ} {e₁ e₂ : ℕ} → next_of f j ≡ Ok (Some s)
    → list (steps_to f j ++ (s ∷ [])) ≡ list (steps_to f j) ++ expanded_known known s
    → Added o 0 (bytes_of_all (list (steps_to f j))) o₁ e₁
    → Added o₁ e₁ (cond (ltb (length o₁) (e₁ + 32)) [] (bytes_of_all (expanded_known known s))) o₂ e₂
    → e₁ ≤ 32 * j → length o₁ ≡ length o → 32 * j + 32 ≤ length o
    → Added o 0 (bytes_of_all (list (steps_to f (j + 1)))) o₂ e₂ × (e₂ ≤ 32 * (j + 1)) × (length o₂ ≡ length o)
added_step f o j {s} list known {o₁} {o₂} {e₁} {e₂} is more so_far put most same room =
    let fits : e₁ + 32 ≤ length o₁ = omega arith in
    let whole = rw (le-ltb _ _ fits) at put in
    let few : e₂ ≤ e₁ + 32 = omega (arith, whole.next, length-bytes (expanded_known known s), known_most known s) in
    (rw (steps_next f j is, more, bytes-append) (added_append so_far whole (omega arith)), omega arith, added_length whole (omega arith) ∙ same)

-- all of them written: they are counted
pub steps_put : (cs : List Command) (o : List ℕ) {o' : List ℕ} {e : ℕ} → Added o 0 (bytes_of_all cs) o' e → StepsPut cs o o' (Ok (e / 4))
steps_put cs o {o'} {e} s =
    let n : length (bytes_of_all cs) ≡ 4 * length cs = length-bytes cs in
    let k : e / 4 ≡ length cs = omega arith in
    record { answer = ap Ok k; bytes = s.now }

-- what an answer says of the file, where its first n steps have the commands `list n`
pub record Translates (f : List ℕ) (list : ℕ → List Command) (room k : ℕ) : Type 0 where
  pub steps : ℕ
  pub accepted : checked f ≡ Ok steps
  pub counted : step_count f ≡ steps
  pub commands : k ≡ length (list steps)
  pub fits : 32 * steps ≤ room

-- ---- a file translated into such a list, whichever it is
module _ (f : List ℕ) (list : ℕ → List Command) where
  module _ (o : List ℕ) (m : ℕ) (acc : checked f ≡ Ok m) where
    module _ (room : m ≤ length o / 32) where
      pub enough_room : 32 * m ≤ length o
      enough_room = omega arith

      pub put_whole : {o' : List ℕ} {r : Result ℕ Refusal} → StepsPut (list m) o o' r
          → (r ≡ if_room (checked f) list (length o)) × (o' ≡ put_by r (list (step_count f)) o)
      put_whole {o'} {r} s =
          let l : Legal f m = answer_says f acc in (
            s.answer ∙ rw (acc, le-ltb _ _ enough_room) refl,
            s.bytes ∙ ap (λ (n : ℕ). put o 0 (bytes_of_all (list n))) (sym l.count) ∙ ap (λ (t : Result ℕ Refusal). put_by t (list (step_count f)) o) (sym s.answer),
          )

  pub room_says : (room k : ℕ) → if_room (checked f) list room ≡ Ok k → Translates f list room k
  room_says room k is = go (checked f) refl is
    where
      roomy : (m : ℕ) → checked f ≡ Ok m → (z : Bool) → ltb room (32 * m) ≡ z → cond z (Err Room) (Ok (length (list m))) ≡ Ok k → Translates f list room k
      roomy m acc true e h = absurd (let z : ◌≡◌ {A = ℕ} 0 1 = cc in omega arith)
      roomy m acc false e h = let l : Legal f m = answer_says f acc in
          record { steps = m; accepted = acc; counted = l.count; commands = cc; fits = ltb-false _ _ e }

      go : (r : Result ℕ Refusal) → checked f ≡ r → if_room r list room ≡ Ok k → Translates f list room k
      go (Ok m) acc h = roomy m acc (ltb room (32 * m)) refl h
      go (Err why) acc h = absurd (let z : ◌≡◌ {A = ℕ} 0 1 = cc in omega arith)

  -- the answer's number and value are those of the table
  pub room-number : (room : ℕ) → of_translated (if_room (checked f) list room) ≡ room_table f list room
  room-number room = go (checked f) refl
    where
      go : (r : Result ℕ Refusal) → checked f ≡ r → of_translated (if_room r list room) ≡ room_table f list room
      go (Ok m) acc =
          let l : Legal f m = answer_says f acc in
          of_cond of_translated (ltb room (32 * m)) (Err Room) (Ok (length (list m)))
          ∙ ap (λ (n : ℕ). cond (ltb room (32 * n)) (returned 9 0) (returned 0 (length (list n)))) (sym l.count) ∙ sym (accepted_table f m acc _)
      go (Err why) acc = sym (refused_table f why acc _)

-- .. and the plain list of its commands
pub translated-says : (f : List ℕ) (room k : ℕ) → translated f room ≡ Ok k → Translates f (commands_to f) room k
unfolding translated
translated-says f room k is = room_says f (commands_to f) room k is

pub translated-number : (f : List ℕ) (room : ℕ) → of_translated (translated f room) ≡ translated_table f room
unfolding translated
translated-number f room = room-number f (commands_to f) room
