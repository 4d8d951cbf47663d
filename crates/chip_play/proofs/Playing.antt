-- The entry: the bytes that are run are those of the translation, and what the run gives means by name what `ByName` says.
use Prim.Native.Nat.{ℕ, ◌+◌, ◌*◌, ◌≤◌, min}
use native.Mathlib.Decide.{dec_le}
use native.Mathlib.Omega.{arith}
use mathlib.Core.Bool.{Bool, true, false, cond}
use mathlib.Core.Path.{◌≡◌, refl, ◌∙◌, ap, sym}
use mathlib.Core.List.{List}
use lib.Dec.{ltb}
use lib.ListN.{length, take, drop}
use lib.Seq.{take_at, take_all}
use Rattle.lists.specs.Numbers.{returned}
use Rattle.lists.specs.Tab.{tab}
use Rattle.lists.proofs.Put.{length-put}
use Rattle.chip.specs.State.{Chip, named, join}
use Rattle.chip.specs.Names.{ports_open}
use Rattle.chip.specs.Reset.{reset_byte, reset}
use Rattle.script.specs.File.{step_count, checked}
use Rattle.script.proofs.Counting.{accepted_few}
use Rattle.script.proofs.Checking.{Legal, answer_says, accepted_table, refused_table}
use Rattle.script.specs.declared.Refusal.{Refusal}
use Rattle.script.specs.declared.Refusal.TheVariants.{Room}
use Rattle.script_commands.specs.Command.{bytes_of_all}
use Rattle.script_commands.specs.Translation.{steps_to, commands_to, if_room, translated, put_by, left_by}
use Rattle.script_commands.proofs.Codec.{length-bytes}
use Rattle.script_commands.proofs.Counted.{steps_counted}
use Rattle.script_commands.proofs.Expanding.{begins_most}
use Rattle.script_commands.proofs.Translating.{Translates, room_says, translated-says}
use Rattle.script_commands.specs.declared.Command.{Command}
use Rattle.chip_run.specs.Run.{altering, Ran, ran_to, reads, ran, tally}
use Rattle.chip_run.specs.declared.Ending.TheVariants.{Ended, Stopped}
use Rattle.chip_run.specs.declared.Reason.TheVariants.{Closed}
use Rattle.chip_play.specs.ByName.{applied_all}
use Rattle.chip_play.specs.Played.{Performance, fresh, performed, run_by, after_translation, changing_of, played, ByName, of_outcome, play_table}
use Rattle.chip_play.proofs.Demand3.{steps_legal, whole_run}
use Rattle.chip_play.proofs.Closed.{Stops, stops_run, steps_stop}
use Rattle.std.specs.Prelude.{Result, Ok, Err}
use Rattle.chip_run.specs.declared.Tally.{Tally}

-- ---- the commands in front of a buffer
front-whole : (l : List ℕ) (k : ℕ) → take (min (4 * k) (length l)) l ≡ take (4 * k) l
front-whole l k = go (dec_le (4 * k) (length l))
  where
    go : Dec (4 * k ≤ length l) → take (min (4 * k) (length l)) l ≡ take (4 * k) l
    go (yes h) = let e : min (4 * k) (length l) ≡ 4 * k = omega arith in ap (λ (n : ℕ). take n l) e
    go (no h) =
        let e : min (4 * k) (length l) ≡ length l = omega arith in
        ap (λ (n : ℕ). take n l) e ∙ take_all (length l) l (omega arith) ∙ sym (take_all (4 * k) l (omega arith))

pub run_commands_by : (c : Chip) (buffer : List ℕ) {t : Result ℕ Refusal} {k end : ℕ} {r : Ran} → t ≡ Ok k → end ≡ min (4 * k) (length buffer)
    → r ≡ ran c (take end buffer) k → performed r ≡ run_by t c buffer
run_commands_by c buffer {t} {k} {end} is at gave =
    ap performed (gave ∙ ap (λ (n : ℕ). ran c (take n buffer) k) at ∙ ap (λ (l : List ℕ). ran c l k) (front-whole buffer k))
    ∙ ap (λ (x : Result ℕ Refusal). run_by x c buffer) (sym is)

-- ---- a file translated into a list of at most 8 commands a step, whichever it is
module _ (f : List ℕ) (list : ℕ → List Command) (most : (n : ℕ) → length (list n) ≤ 8 * n) where
  -- the commands fit into the buffer
  pub list_fits : (room k : ℕ) → Translates f list room k → 4 * k ≤ room
  list_fits room k t =
      let few : length (list t.steps) ≤ 8 * t.steps = most t.steps in
      let n : k ≡ length (list t.steps) = t.commands in
      let h : 32 * t.steps ≤ room = t.fits in
      omega arith

  list_size : (room k : ℕ) → Translates f list room k → length (bytes_of_all (list (step_count f))) ≡ 4 * k
  list_size room k t =
      length-bytes (list (step_count f)) ∙ ap (λ (n : ℕ). 4 * length (list n)) t.counted ∙ ap (λ (n : ℕ). 4 * n) (sym t.commands)

  pub list_front-fits : (o : List ℕ) (k : ℕ) {o' : List ℕ} → Translates f list (length o) k → o' ≡ put_by (Ok k) (list (step_count f)) o → 4 * k ≤ length o'
  list_front-fits o k {o'} t left =
      let fits : 4 * k ≤ length o = list_fits (length o) k t in
      let size : length (bytes_of_all (list (step_count f))) ≡ 4 * k = list_size (length o) k t in
      let same : length o' ≡ length o = ap length left ∙ length-put o (bytes_of_all (list (step_count f))) 0 (omega arith) in
      omega arith

  -- the front of the buffer is the commands
  pub list_front : (o : List ℕ) (k : ℕ) {o' : List ℕ} → Translates f list (length o) k → o' ≡ put_by (Ok k) (list (step_count f)) o
      → take (4 * k) o' ≡ bytes_of_all (list (step_count f))
  list_front o k {o'} t left =
      let bs : List ℕ = bytes_of_all (list (step_count f)) in
      ap (take (4 * k)) left ∙ take_at bs (drop (0 + length bs) o) (4 * k) (list_size (length o) k t)

  -- so what is run in the buffer is the list
  pub run_list : (c : Chip) (o : List ℕ) {r : Result ℕ Refusal} {o' : List ℕ} → r ≡ if_room (checked f) list (length o) → o' ≡ put_by r (list (step_count f)) o
      → run_by r c o' ≡ after_translation (if_room (checked f) list (length o)) (list (step_count f)) c
  run_list c o {r} {o'} is left = rw (← is) (go r refl left)
    where
      go : (t : Result ℕ Refusal) → r ≡ t → o' ≡ put_by t (list (step_count f)) o → run_by t c o' ≡ after_translation t (list (step_count f)) c
      go (Ok k) e h = ap (λ (bytes : List ℕ). performed (ran c bytes k)) (list_front o k (room_says f list (length o) k (sym is ∙ e)) h)
      go (Err why) e h = refl

-- ---- what such a list has to do: with open ports it is all carried out and does by name what the steps say, and as many of its
-- commands change something as of the plain list's; with closed ports its first is refused
pub record Plays (f : List ℕ) (list : ℕ → List Command) (c : Chip) : Type 0 where
  pub ends : (m : ℕ) → checked f ≡ Ok m → ports_open (named c) ≡ true → (d : Chip)
      × (ran c (bytes_of_all (list m)) (length (list m)) ≡ ran_to d (length (list m)) (altering c 0 (reads (bytes_of_all (commands_to f m)))) Ended)
      × (named d ≡ applied_all (steps_to f m) (named c))
  pub stops : (m : ℕ) → checked f ≡ Ok m → (shut : ports_open (named c) ≡ false) → Stops c shut (list m)

module _ (f : List ℕ) (list : ℕ → List Command) (c : Chip) (plays : Plays f list c) (room : ℕ) where
  abbrev answered : Result ℕ Refusal
  answered = if_room (checked f) list room

  abbrev after : Performance
  after = after_translation answered (list (step_count f)) c

  same_run : (k : ℕ) → answered ≡ Ok k → (t : Translates f list room k)
      → after ≡ performed (ran c (bytes_of_all (list t.steps)) (length (list t.steps)))
  same_run k is t =
      ap (λ (x : Result ℕ Refusal). after_translation x (list (step_count f)) c) is
      ∙ ap (λ (m : ℕ). performed (ran c (bytes_of_all (list m)) k)) t.counted
      ∙ ap (λ (j : ℕ). performed (ran c (bytes_of_all (list t.steps)) j)) t.commands

  answers : (k : ℕ) → answered ≡ Ok k → ports_open (named c) ≡ true
      → (after.outcome ≡ Ok (tally k (changing_of c f) Ended)) × (named after.chip ≡ applied_all (steps_to f (step_count f)) (named c))
  answers k is free =
      let t = room_says f list room k is in
      let (d, e, h) = plays.ends t.steps t.accepted free in
      let same = same_run k is t in (
        ap (λ (p : Performance). p.outcome) same ∙ ap (λ (r : Ran). (performed r).outcome) e
            ∙ ap (λ (n : ℕ). Ok (tally n (altering c 0 (reads (bytes_of_all (commands_to f t.steps)))) Ended)) (sym t.commands)
            ∙ ap (λ (n : ℕ). Ok (tally k (altering c 0 (reads (bytes_of_all (commands_to f n)))) Ended)) (sym t.counted),
        ap (λ (p : Performance). named p.chip) same ∙ ap (λ (r : Ran). named r.chip) e ∙ h ∙ ap (λ (n : ℕ). applied_all (steps_to f n) (named c)) (sym t.counted),
      )

  closed : (k : ℕ) → answered ≡ Ok k → ports_open (named c) ≡ false → (after.outcome ≡ Ok (tally 0 0 (Stopped 0 Closed))) × (after.chip ≡ c)
  closed k is shut =
      let t = room_says f list room k is in
      let e = stops_run c shut (list t.steps) (plays.stops t.steps t.accepted shut) in
      let same = same_run k is t in
      (ap (λ (p : Performance). p.outcome) same ∙ ap (λ (r : Ran). (performed r).outcome) e, ap (λ (p : Performance). p.chip) same ∙ ap (λ (r : Ran). r.chip) e)

  refused : (why : Refusal) → answered ≡ Err why → (after.outcome ≡ Err why) × (after.chip ≡ c)
  refused why is = (
    ap (λ (x : Result ℕ Refusal). (after_translation x (list (step_count f)) c).outcome) is,
    ap (λ (x : Result ℕ Refusal). (after_translation x (list (step_count f)) c).chip) is,
  )

  pub list_by_name : ByName answered c f after
  list_by_name = record { refused = refused; answers = answers; closed = closed }

  -- number and value are those of the table
  pub list_number : of_outcome after.outcome ≡ play_table c f room
  list_number = go (checked f) refl
    where
      opened : (k : ℕ) → answered ≡ Ok k → (z : Bool) → ports_open (named c) ≡ z → of_outcome after.outcome ≡ cond z (returned 0 0) (returned 2 0)
      opened k is true e = ap of_outcome (answers k is e).0
      opened k is false e = ap of_outcome (closed k is e).0

      roomy : (m : ℕ) → checked f ≡ Ok m → (z : Bool) → ltb room (32 * m) ≡ z
          → of_outcome after.outcome ≡ cond z (returned 9 0) (cond (ports_open (named c)) (returned 0 0) (returned 2 0))
      roomy m acc true e = ap of_outcome (refused Room (rw (acc, e) refl)).0
      roomy m acc false e = opened (length (list m)) (rw (acc, e) refl) (ports_open (named c)) refl

      go : (r : Result ℕ Refusal) → checked f ≡ r → of_outcome after.outcome ≡ play_table c f room
      go (Ok m) acc =
          let l : Legal f m = answer_says f acc in
          roomy m acc (ltb room (32 * m)) refl
          ∙ ap (λ (n : ℕ). cond (ltb room (32 * n)) (returned 9 0) (cond (ports_open (named c)) (returned 0 0) (returned 2 0))) (sym l.count)
          ∙ sym (accepted_table f m acc _)
      go (Err why) acc = ap of_outcome (refused why (rw acc refl)).0 ∙ sym (refused_table f why acc _)

  -- what a contract says of such a play, from what was run in the buffer
  pub list_answered : (most : (n : ℕ) → length (list n) ≤ 8 * n) (o : List ℕ) {r : Performance} {o' : List ℕ} {t : Result ℕ Refusal} → length o ≡ room → t ≡ answered
      → o' ≡ put_by t (list (step_count f)) o → r ≡ run_by t c o'
      → (r ≡ after) × (ByName answered c f r × ((o' ≡ put_by answered (list (step_count f)) o) × (of_outcome r.outcome ≡ play_table c f room)))
  list_answered most o {r} {o'} {t} size is left gave =
      let e : r ≡ after = gave ∙ run_list f list most c o (is ∙ ap (if_room (checked f) list) (sym size)) left ∙ ap (λ (n : ℕ). after_translation (if_room (checked f) list n) (list (step_count f)) c) size in
      (e, (rw e list_by_name, (left ∙ ap (λ (x : Result ℕ Refusal). put_by x (list (step_count f)) o) is, ap (λ (p : Performance). of_outcome p.outcome) e ∙ list_number)))

-- ---- the plain list
pub commands_fit : (f : List ℕ) (room k : ℕ) → translated f room ≡ Ok k → 4 * k ≤ room
commands_fit f room k is = list_fits f (commands_to f) (begins_most f) room k (translated-says f room k is)

pub front_fits : (f o : List ℕ) (k : ℕ) {o' : List ℕ} → translated f (length o) ≡ Ok k → o' ≡ left_by (Ok k) f o → 4 * k ≤ length o'
front_fits f o k is left = list_front-fits f (commands_to f) (begins_most f) o k (translated-says f (length o) k is) left

pub front_commands : (f o : List ℕ) (k : ℕ) {o' : List ℕ} → translated f (length o) ≡ Ok k → o' ≡ left_by (Ok k) f o
    → take (4 * k) o' ≡ bytes_of_all (commands_to f (step_count f))
front_commands f o k is left = list_front f (commands_to f) (begins_most f) o k (translated-says f (length o) k is) left

-- what was run is what `played` says
pub played_commands : (c : Chip) (f : List ℕ) (room k : ℕ) {bytes : List ℕ} {r : Ran} → translated f room ≡ Ok k
    → bytes ≡ bytes_of_all (commands_to f (step_count f)) → r ≡ ran c bytes k → performed r ≡ played c f room
unfolding played
played_commands c f room k is same gave = rw (is, ← same, ← gave) refl

pub played-refused : (c : Chip) (f : List ℕ) (room : ℕ) (why : Refusal) → translated f room ≡ Err why
    → ◌≡◌ {A = Performance} (record { chip = c; outcome = Err why }) (played c f room)
unfolding played
played-refused c f room why is = rw is refl

pub plain_plays : (f : List ℕ) (c : Chip) → Plays f (commands_to f) c
plain_plays f c = record {
  ends = λ m acc free. let (x, l, e) = whole_run f m acc c free in (join (applied_all (steps_to f m) (named c)) x l, e, refl);
  stops = λ m acc shut.
      steps_stop c shut (steps_to f m) (steps_legal f m acc m (omega arith)) (omega (arith, (accepted_few f m acc).0, steps_counted f m acc m (omega arith)));
}

module _ (c : Chip) (f : List ℕ) (room : ℕ) where
  pub by_name : ByName (translated f room) c f (played c f room)
  unfolding translated played
  by_name = list_by_name f (commands_to f) c (plain_plays f c) room

  pub played-number : of_outcome (played c f room).outcome ≡ play_table c f room
  unfolding translated played
  played-number = list_number f (commands_to f) c (plain_plays f c) room

-- what the contract of `play` says, from the one equation and the buffer
pub play_answered : (c : Chip) (f o : List ℕ) {r : Performance} {o' : List ℕ} {t : Result ℕ Refusal} → t ≡ translated f (length o) → o' ≡ left_by t f o
    → r ≡ run_by t c o'
    → (r ≡ played c f (length o))
    × (ByName (translated f (length o)) c f r × ((o' ≡ left_by (translated f (length o)) f o) × (of_outcome r.outcome ≡ play_table c f (length o))))
unfolding translated played
play_answered c f o is left gave = list_answered f (commands_to f) c (plain_plays f c) (length o) (begins_most f) o refl is left gave

-- ---- on a chip after a reset, whose ports are open: what became of a script says what its translation answered, and how many of
-- its commands change something
pub fresh_open : ports_open (named fresh) ≡ true
unfolding ports_open reset tab reset_byte
fresh_open = refl

abbrev pub FreshSays : List ℕ → ℕ → Result Tally Refusal → Type 0
FreshSays f room (Err why) = translated f room ≡ Err why
FreshSays f room (Ok t) = (translated f room ≡ Ok t.count) × (t.changing ≡ changing_of fresh f)

pub fresh-says : (f : List ℕ) (room : ℕ) (o : Result Tally Refusal) → (played fresh f room).outcome ≡ o → FreshSays f room o
fresh-says f room o is = go (translated f room) refl
  where
    go : (t : Result ℕ Refusal) → translated f room ≡ t → FreshSays f room o
    go (Ok k) e =
        rw (← is, ((by_name fresh f room).answers k e fresh_open).0) (e, refl)
    go (Err why) e = rw (← is, ((by_name fresh f room).refused why e).0) e
