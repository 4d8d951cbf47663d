-- What an answer of `compose` can be. A line that it reports is not fine; the steps that it gathers pass and are at most 1,008,
-- so that the writer refuses them for two reasons alone: there is none, or there is too little room, which 6,144 bytes always
-- are.
use Prim.Native.Nat.{ℕ, zero, suc, ◌+◌, ◌*◌, ◌/◌, ◌≤◌, ◌<◌}
use native.Mathlib.Omega.{arith}
use native.Mathlib.Decide.{ℕ_discrete, dec_lt}
use mathlib.Core.Bool.{Bool, true, false, cond, false≢true}
use mathlib.Core.Logic.{◌⊎◌, inl, inr}
use mathlib.Core.Path.{◌≡◌, refl, sym, ap, ◌∙◌}
use mathlib.Core.List.{List, [], ◌∷◌, ◌++◌}
use lib.Dec.{ltb}
use lib.ListN.{length, get_or, take, drop, length-append, length-drop}
use lib.Seq.{take_all, take-append-le, drop-append-le, drop-append_seam}
use borrow.Author.Tests.{ltb-true}
use Rattle.lists.proofs.Scan.{first_end}
use Rattle.lists.proofs.Tests.{units_test}
use Rattle.script_steps.specs.Step.{bytes_of, step_of, judged, is_good}
use Rattle.script_steps.specs.declared.Step.{Step}
use Rattle.script_steps.proofs.Codec.{read-written, bytes-length}
use Rattle.script_steps.proofs.Lawful.{good_passes}
use Rattle.script.specs.File.{step_at, first_bad_step}
use Rattle.script.specs.declared.Layout.TheVariants.{Plain}
use Rattle.script.specs.declared.Refusal.{Refusal}
use Rattle.script.specs.declared.Refusal.TheVariants.{Length, Block, Step as IsStep, Room}
use Rattle.text_steps.specs.Reading.{line_of}
use Rattle.script_writer.specs.Write.{whole_steps, blocks_for, written}
use Rattle.script_writer.proofs.Writing.{BadStep, answer_says}
use Rattle.text_to_script.specs.Lines.{text_lines}
use Rattle.text_to_script.specs.Compose.{step_verdict, verdict, with_line, or_stop, of_writer, composed_from, composed, gathered}
use Rattle.std.specs.Prelude.{Result, Option, Ok, Err, Some, None}
use Rattle.script_steps.specs.declared.Fault.{Fault}
use Rattle.text_steps.specs.declared.NotAStep.{NotAStep}
use Rattle.text_steps.specs.declared.NotAStep.TheVariants.{Other}
use Rattle.text_to_script.specs.declared.LineError.{LineError}
use Rattle.text_to_script.specs.declared.LineError.TheVariants.{Many}
use Rattle.text_to_script.specs.declared.ComposeError.TheVariants.{Stopped, Refused as NotWritten}

-- ---- steps that all pass, and are not too many
record Gathered (s : List ℕ) : Type 0 where
  whole : length s ≡ 6 * (length s / 6)
  few : length s ≤ 6048
  each : (j : ℕ) → j < length s / 6 → is_good (step_at Plain s j) ≡ true

no_steps : Gathered []
no_steps = record { whole = refl; few = omega arith; each = λ j h. absurd (omega arith) }

module _ (s : List ℕ) (g : Gathered s) (x : Step) (ok : judged x ≡ Ok x) (room : length s < 6048) where
  -- a step that stood there, and the new one
  stays : (j : ℕ) → 6 * j + 6 ≤ length s → step_at Plain (s ++ bytes_of x) j ≡ step_at Plain s j
  stays j h =
      ap (λ (l : List ℕ). step_of (take 6 l)) (drop-append-le (6 * j) s (bytes_of x) (omega arith))
      ∙ ap step_of (take-append-le 6 (drop (6 * j) s) (bytes_of x) (omega (arith, length-drop (6 * j) s)))

  added : step_at Plain (s ++ bytes_of x) (length s / 6) ≡ Ok x
  added =
      let at : 6 * (length s / 6) ≡ length s = sym g.whole in
      ap (λ (k : ℕ). step_of (take 6 (drop k (s ++ bytes_of x)))) at
      ∙ ap (λ (l : List ℕ). step_of (take 6 l)) (drop-append_seam s (bytes_of x))
      ∙ ap step_of (take_all 6 (bytes_of x) (omega (arith, bytes-length x)))
      ∙ read-written x
      ∙ ok

  step-more : Gathered (s ++ bytes_of x)
  step-more =
      let six : length (bytes_of x) ≡ 6 = bytes-length x in
      let size : length (s ++ bytes_of x) ≡ length s + 6 = length-append s (bytes_of x) ∙ ap (◌+◌ (length s)) six in
      record {
        whole = omega arith;
        few = omega arith;
        each = λ j h. go j h (dec_lt j (length s / 6));
      }
    where
      go : (j : ℕ) → j < length (s ++ bytes_of x) / 6 → Dec (j < length s / 6) → is_good (step_at Plain (s ++ bytes_of x) j) ≡ true
      go j h (yes l) = ap is_good (stays j (omega arith)) ∙ g.each j l
      go j h (no l) =
          let six : length (bytes_of x) ≡ 6 = bytes-length x in
          let last : j ≡ length s / 6 = omega (arith, length-append s (bytes_of x)) in
          ap (λ (k : ℕ). is_good (step_at Plain (s ++ bytes_of x) k)) last ∙ ap is_good added

-- a line that is fine keeps them so
line-more : (l : Result (Option Step) NotAStep) (s : List ℕ) → Gathered s → verdict l (length s) ≡ Ok tt → Gathered (with_line l s)
line-more (Ok None) s g e = g
line-more (Err Other) s g e = g
line-more (Ok (Some x)) s g e = go (judged x) refl e
  where
    few : (q : Step) → judged x ≡ Ok q → (b : Bool) → ltb (length s) 6048 ≡ b → cond {A = Result (Unit {0}) LineError} b (Ok tt) (Err Many) ≡ Ok tt → Gathered (s ++ bytes_of x)
    few q ok true room t = step-more s g x (ok ∙ ap Ok (sym (good_passes x q ok).0)) (ltb-true _ _ room)
    few q ok false room t = absurd (let z : ◌≡◌ {A = ℕ} 0 1 = cc in omega arith)

    go : (r : Result Step Fault) → judged x ≡ r → step_verdict r (length s) ≡ Ok tt → Gathered (s ++ bytes_of x)
    go (Ok q) ok t = few q ok (ltb (length s) 6048) refl t
    go (Err why) ok t = absurd (let z : ◌≡◌ {A = ℕ} 0 1 = cc in omega arith)

-- ---- what the writer can then refuse
abbrev pub Reason : List ℕ → ℕ → Refusal → Type 0
Reason s room r = ((r ≡ Length) × (s ≡ [])) ⊎ ((r ≡ Room) × (room < 6144))

empty : (s : List ℕ) → length s ≡ 0 → s ≡ []
empty [] e = refl
empty (c ∷ cs) e = absurd (omega arith)

module _ (s : List ℕ) (g : Gathered s) (room : ℕ) where
  none_left : Dec (length s ≡ 0) → whole_steps s ≡ false → length s ≡ 0
  none_left (yes z) w = z
  none_left (no z) w =
      let whole : whole_steps s ≡ true = units_test 6 1008 (length s) (record { even = omega arith; some = omega arith; few = omega arith }) in
      absurd (false≢true (sym w ∙ whole))

  reasons : (r : Refusal) → written s room ≡ Err r → Reason s room r
  reasons Length e = inl (refl, empty s (none_left (ℕ_discrete (length s) 0) (answer_says s room e)))
  reasons (Block k) e = absurd (answer_says s room e)
  reasons (IsStep j why) e =
      let bad : BadStep s j why = answer_says s room e in
      let end : first_bad_step Plain s (length s / 6) ≡ length s / 6 = first_end (λ i. is_good (step_at Plain s i)) (length s / 6) g.each in
      absurd (omega arith)
  reasons Room e =
      let short : room < 512 * blocks_for s = (answer_says s room e).1 in
      inr (refl, omega arith)

-- ---- the answers
answers : (ls : List (List ℕ)) (k : ℕ) (s : List ℕ) → Gathered s → (room : ℕ) (r : Refusal) → composed_from k s ls room ≡ Err (NotWritten r) → Reason (gathered s ls) room r
unfolding composed_from gathered
answers [] k s g room r e = go (written s room) refl e
  where
    go : (w : Result ℕ Refusal) → written s room ≡ w → of_writer w ≡ Err (NotWritten r) → Reason s room r
    go (Ok n) is t = absurd (let z : ◌≡◌ {A = ℕ} 0 1 = cc in omega arith)
    go (Err q) is t = let same : q ≡ r = cc in rw same at (reasons s g room q is)
answers (l ∷ ls) k s g room r e =
    go (verdict (line_of l) (length s)) refl (λ fine. answers ls (k + 1) (with_line (line_of l) s) (line-more (line_of l) s g fine) room r) e
  where
    go : (v : Result (Unit {0}) LineError) → verdict (line_of l) (length s) ≡ v
        → (verdict (line_of l) (length s) ≡ Ok tt → composed_from (k + 1) (with_line (line_of l) s) ls room ≡ Err (NotWritten r) → Reason (gathered (with_line (line_of l) s) ls) room r)
        → or_stop v k (composed_from (k + 1) (with_line (line_of l) s) ls room) ≡ Err (NotWritten r) → Reason (gathered (with_line (line_of l) s) ls) room r
    go (Ok tt) is rest t = rest is t
    go (Err why) is rest t = absurd (let z : ◌≡◌ {A = ℕ} 0 1 = cc in omega arith)

-- a text whose lines are all fine is refused for having no step, 8, or for too little room, 9; in 6,144 bytes for no step alone
pub refused_why : (text : List ℕ) (room : ℕ) (r : Refusal) → composed text room ≡ Err (NotWritten r) → Reason (gathered [] (text_lines text)) room r
refused_why text room r e = answers (text_lines text) 0 [] no_steps room r e

-- a line that is reported is not fine: what is reported of it is its verdict behind the steps of the lines before it
record Reported (ls : List (List ℕ)) (s : List ℕ) (j : ℕ) (v : Result (Unit {0}) LineError) : Type 0 where
  pub line : j < length ls
  pub why : (e : LineError) × (v ≡ Err e) × (verdict (line_of (get_or ls j [])) (length (gathered s (take j ls))) ≡ Err e)

stopped-bad : (ls : List (List ℕ)) (k : ℕ) (s : List ℕ) (room n : ℕ) (v : Result (Unit {0}) LineError) → composed_from k s ls room ≡ Err (Stopped v n)
    → (j : ℕ) × (n ≡ k + j) × Reported ls s j v
unfolding composed_from gathered
stopped-bad [] k s room n v is = absurd (go (written s room) is)
  where
    go : (w : Result ℕ Refusal) → of_writer w ≡ Err (Stopped v n) → ⊥
    go (Ok m) t = let z : ◌≡◌ {A = ℕ} 0 1 = cc in omega arith
    go (Err q) t = let z : ◌≡◌ {A = ℕ} 0 1 = cc in omega arith
stopped-bad (l ∷ ls) k s room n v is = go (verdict (line_of l) (length s)) refl (stopped-bad ls (k + 1) (with_line (line_of l) s) room n v) is
  where
    more : (j : ℕ) × (n ≡ k + 1 + j) × Reported ls (with_line (line_of l) s) j v → (j : ℕ) × (n ≡ k + j) × Reported (l ∷ ls) s j v
    more (j, at, found) = (suc j, omega arith, record { line = omega (arith, found.line); why = found.why })

    go : (u : Result (Unit {0}) LineError) → verdict (line_of l) (length s) ≡ u
        → (composed_from (k + 1) (with_line (line_of l) s) ls room ≡ Err (Stopped v n) → (j : ℕ) × (n ≡ k + 1 + j) × Reported ls (with_line (line_of l) s) j v)
        → or_stop u k (composed_from (k + 1) (with_line (line_of l) s) ls room) ≡ Err (Stopped v n) → (j : ℕ) × (n ≡ k + j) × Reported (l ∷ ls) s j v
    go (Ok tt) here rest t = more (rest t)
    go (Err why) here rest t =
        let same : v ≡ Err why = cc in
        let at : k ≡ n = cc in
        (zero, omega arith, record { line = omega arith; why = (why, same, here) })

pub stopped-why : (text : List ℕ) (room n : ℕ) (v : Result (Unit {0}) LineError) → composed text room ≡ Err (Stopped v n)
    → (n < length (text_lines text)) × ((e : LineError) × (v ≡ Err e) × (verdict (line_of (get_or (text_lines text) n [])) (length (gathered [] (take n (text_lines text)))) ≡ Err e))
stopped-why text room n v is =
    let (j, at, found) = stopped-bad (text_lines text) 0 [] room n v is in
    let same : j ≡ n = omega arith in
    (rw same at found.line, rw same at found.why)
