-- One turn of the loop over lines in each of its ways: what is still to come from here is the whole answer.
use Prim.Native.Nat.{ℕ, ◌+◌, ◌*◌, ◌≤◌, ◌<◌}
use native.Mathlib.Omega.{arith}
use mathlib.Core.Bool.{Bool, true, false, cond}
use mathlib.Core.Path.{◌≡◌, refl, sym, ◌∙◌}
use mathlib.Core.List.{List, [], ◌∷◌}
use lib.Dec.{ltb}
use lib.ListN.{length, take, drop, drop_of_length-le}
use lib.Seq.{length-take-le}
use borrow.Author.Tests.{ltb-true}
use Rattle.script_steps.specs.Step.{judged}
use Rattle.script_steps.specs.declared.Step.{Step}
use Rattle.text_steps.specs.Reading.{line_of}
use Rattle.script_writer.specs.Write.{written}
use Rattle.script_writer.proofs.Writing.{answer_says}
use Rattle.text_to_script.specs.Lines.{lines_from, lines_of, mark_size, text_lines}
use Rattle.text_to_script.specs.Compose.{step_verdict, verdict, with_line, or_stop, of_writer, composed_from, gathered, composed}
use Rattle.text_to_script.specs.Working.{part, LineEnds, line_size, Kept, AllGathered}
use Rattle.text_to_script.proofs.MarkLaws.{mark-within}
use Rattle.std.specs.Prelude.{Result, Option, Ok, Err, Some, None}
use Rattle.script_steps.specs.declared.Fault.{Fault}
use Rattle.text_steps.specs.declared.NotAStep.{NotAStep}
use Rattle.text_steps.specs.declared.NotAStep.TheVariants.{Other}
use Rattle.script.specs.declared.Refusal.{Refusal}
use Rattle.text_to_script.specs.declared.LineError.{LineError}
use Rattle.text_to_script.specs.declared.LineError.TheVariants.{Many}
use Rattle.text_to_script.specs.declared.ComposeError.TheVariants.{Stopped}

-- ---- a turn of the loop
pub record Going (t o : List ℕ) (from k n : ℕ) : Type 0 where
  pub answer : (room : ℕ) → composed_from k (take n o) (lines_of (drop from t)) room ≡ composed t room
  pub steps : gathered (take n o) (lines_of (drop from t)) ≡ gathered [] (text_lines t)
  pub few : n ≤ 6053
  pub size : length o ≡ 6054
  pub counted : k ≤ from
  pub within : from ≤ length t + 1

pub going_start : (t o : List ℕ) → length o ≡ 6054 → {n : ℕ} → n ≡ mark_size t → Going t o n 0 0
going_start t o h {n} e =
    let w : mark_size t ≤ length t = mark-within t in
    record {
      answer = λ room. rw e;
      steps = rw e;
      few = omega arith;
      size = h;
      counted = omega arith;
      within = omega arith;
    }

-- a step that is fine stands below the limit
fine_few : (l : Result (Option Step) NotAStep) (n : ℕ) {v : Unit {0}} → verdict l n ≡ Ok v → n ≤ 6053 → n + line_size l ≤ 6053
fine_few (Ok None) n e h = omega arith
fine_few (Err Other) n e h = omega arith
fine_few (Ok (Some s)) n e h = go (judged s) e
  where
    few : (b : Bool) → ltb n 6048 ≡ b → cond {A = Result (Unit {0}) LineError} b (Ok tt) (Err Many) ≡ Ok tt → n + 6 ≤ 6053
    few true f e = let k : n < 6048 = ltb-true _ _ f in omega arith
    few false f e = absurd (let z : ◌≡◌ {A = ℕ} 0 1 = cc in omega arith)

    go : (r : Result Step Fault) → step_verdict r n ≡ Ok tt → n + 6 ≤ 6053
    go (Ok q) e = few (ltb n 6048) refl e
    go (Err why) e = absurd (let z : ◌≡◌ {A = ℕ} 0 1 = cc in omega arith)

module _ (t o : List ℕ) (from k n : ℕ) (g : Going t o from k n) where
  module _ (e : ℕ) (ends : LineEnds t from e) (line : Result (Option Step) NotAStep) (is : line ≡ line_of (part t from e)) where
    here : List ℕ
    here = take n o

    -- the answer at this line
    opened : (room : ℕ) → composed t room ≡ or_stop (verdict line n) k (composed_from (k + 1) (with_line line here) (lines_of (drop (e + 1) t)) room)
    unfolding composed_from here
    opened room =
        let size : length (take n o) ≡ n = length-take-le n o (omega arith) in
        sym (g.answer room) ∙ rw (ends.lines, ← is, size)

    passed : gathered here (lines_of (drop from t)) ≡ gathered (with_line line here) (lines_of (drop (e + 1) t))
    unfolding gathered here
    passed = rw (ends.lines, is)

    pub going_stop : {why : LineError} → verdict line n ≡ Err why → (room : ℕ) → composed t room ≡ Err (Stopped (Err why) k)
    going_stop bad room = opened room ∙ rw bad

    pub going_on : {v : Unit {0}} → verdict line n ≡ Ok v → {o₁ : List ℕ} {n₁ : ℕ} → Kept o n line o₁ n₁ → Going t o₁ (e + 1) (k + 1) n₁
    unfolding here
    going_on fine {o₁} {n₁} kept =
        let most : n + line_size line ≤ 6053 = fine_few line n fine g.few in
        record {
          answer = λ room. sym (opened room ∙ rw (fine, ← kept.steps));
          steps = rw kept.steps (sym passed ∙ g.steps);
          few = omega arith;
          size = kept.size ∙ g.size;
          counted = omega arith;
          within = omega arith;
        }

  pub going_end : length t ≤ from → AllGathered t o n
  unfolding composed_from gathered lines_from
  going_end h =
      let none : drop from t ≡ [] = drop_of_length-le t {i = from} h in
      record {
        within = omega arith;
        steps = rw none at g.steps;
        answer = λ room. sym (rw none at (g.answer room));
      }

-- ---- the file lies within the output
pub composed-within : (ls : List (List ℕ)) (k : ℕ) (s : List ℕ) (room n : ℕ) → composed_from k s ls room ≡ Ok n → 512 * n ≤ room
unfolding composed_from
composed-within [] k s room n e = go (written s room) refl e
  where
    go : (w : Result ℕ Refusal) → written s room ≡ w → of_writer w ≡ Ok n → 512 * n ≤ room
    go (Ok m) is t = let same : m ≡ n = cc in rw same at (answer_says s room is).fits
    go (Err r) is t = absurd (let z : ◌≡◌ {A = ℕ} 0 1 = cc in omega arith)
composed-within (l ∷ ls) k s room n e = go (verdict (line_of l) (length s)) (composed-within ls (k + 1) (with_line (line_of l) s) room n) e
  where
    go : (v : Result (Unit {0}) LineError) → (composed_from (k + 1) (with_line (line_of l) s) ls room ≡ Ok n → 512 * n ≤ room)
        → or_stop v k (composed_from (k + 1) (with_line (line_of l) s) ls room) ≡ Ok n → 512 * n ≤ room
    go (Ok tt) rest t = rest t
    go (Err why) rest t = absurd (let z : ◌≡◌ {A = ℕ} 0 1 = cc in omega arith)
