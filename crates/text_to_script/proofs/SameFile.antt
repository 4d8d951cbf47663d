-- To read: what is shown of an accepted file composes to the same file (`same_file`). Line by line: a step's line is a line of
-- its own, since it has no line feed in it; it reads back as the step; and its six bytes are those of the file.
use Prim.Native.Nat.{ℕ, zero, suc, ◌+◌, ◌*◌, ◌/◌, ◌%◌, ◌≤◌, ◌<◌}
use native.Mathlib.Omega.{arith}
use native.Mathlib.Decide.{dec_lt}
use native.Mathlib.Numerals.{add-one}
use mathlib.Core.Bool.{true}
use mathlib.Core.Path.{◌≡◌, refl, sym, ap, ◌∙◌}
use mathlib.Core.List.{List, [], ◌∷◌, ◌++◌, append_assoc, append-nil}
use lib.ListN.{length, get_or, take, drop, length-take, get_or-eq_default}
use lib.Seq.{take-add, take_all, length-take-le}
use borrow.Author.Tests.{lt-ltb, ne_eqb}
use Rattle.lists.specs.Put.{put}
use Rattle.lists.specs.Tab.{Bytes}
use Rattle.lists.proofs.Parts.{get_d_part}
use Rattle.lists.proofs.Tab.{tab-length}
use Rattle.std.proofs.lemmas.Bool.{and_parts}
use Rattle.script_steps.specs.Step.{legal, bytes_of}
use Rattle.script_steps.proofs.Lawful.{Passes, passes_good}
use Rattle.script_steps.specs.declared.Step.{Step}
use Rattle.script_steps.specs.declared.Step.TheVariants.{Set, Field, Colour}
use Rattle.script.specs.File.{blocks, step_place, step_count, checked}
use Rattle.script.specs.Reader.{next_of}
use Rattle.script.specs.declared.Layout.TheVariants.{Blocks as InFile}
use Rattle.script.proofs.Checking.{answer_says}
use Rattle.script.proofs.Counting.{accepted_few}
use Rattle.script.proofs.Reading.{accepted-handed}
use Rattle.text_steps.specs.Written.{step_text, step_line}
use Rattle.text_steps.proofs.Plain.{plain_character, plain, plain_other, step_plain}
use Rattle.text_steps.proofs.ReadBack.{reads_back}
use Rattle.text_from_script.specs.Show.{line_of_next, text_to, text_of}
use Rattle.script_writer.specs.Write.{file_of, written, steps_of}
use Rattle.script_writer.proofs.Again.{file_again}
use Rattle.script_writer.proofs.RoundTrip.{read-written, written_read}
use Rattle.text_to_script.specs.Lines.{lines_from, lines_of, text_lines}
use Rattle.text_to_script.specs.Compose.{with_line, of_writer, composed_from, gathered, composed, file_of_text, left_by}
use Rattle.text_to_script.proofs.MarkLaws.{mark-none, lines_unmarked}
use Rattle.std.specs.Prelude.{Result, Option, Ok, Err, Some, None}
use Rattle.script.specs.declared.Refusal.{Refusal}
use Rattle.text_steps.specs.declared.NotAStep.{NotAStep}

-- ---- a text without a line feed is a line of its own
own_line : (b l r : List ℕ) → plain l ≡ true → lines_from b (l ++ (0x0A ∷ r)) ≡ (b ++ l) ∷ lines_of r
unfolding lines_from
own_line b [] r h = ap (λ (x : List ℕ). x ∷ lines_of r) (sym (append-nil b))
own_line b (c ∷ cs) r h =
    let t = and_parts (plain_character c) (plain cs) h in
    rw (ne_eqb c 0x0A (plain_other c t.0).0) (own_line (b ++ (c ∷ [])) cs r t.1 ∙ ap (λ (x : List ℕ). x ∷ lines_of r) (append_assoc b (c ∷ []) cs))

step_lines : (s : Step) → legal s ≡ true → (r : List ℕ) → lines_of (step_line s ++ r) ≡ step_text s ∷ lines_of r
step_lines s ok r = ap lines_of (append_assoc (step_text s) (0x0A ∷ []) r) ∙ own_line [] (step_text s) r (step_plain s ok)

-- ---- a text of steps begins with a letter, and has no mark
head_append : (x y : List ℕ) (k : ℕ) → get_or x 0 0 < k → get_or y 0 0 < k → get_or (x ++ y) 0 0 < k
head_append [] y k h g = g
head_append (c ∷ cs) y k h g = h

step_first : (s : Step) → get_or (step_line s) 0 0 < 0xEF
unfolding step_text
step_first (Set g i v) = omega arith
step_first (Field g i v m) = omega arith
step_first (Colour e r g b) = omega arith

next_first : (x : Result (Option Step) Refusal) → get_or (line_of_next x) 0 0 < 0xEF
next_first (Ok (Some s)) = step_first s
next_first (Err r) = omega arith
next_first (Ok None) = omega arith

text-first : (f : List ℕ) (n : ℕ) → get_or (text_to f n) 0 0 < 0xEF
unfolding text_to
text-first f zero = omega arith
text-first f (suc n) = head_append (text_to f n) (line_of_next (next_of f n)) 0xEF (text-first f n) (next_first (next_of f n))

-- ---- a step's line adds the step's bytes
module _ (s : Step) (ok : Passes s) (bytes : Bytes (bytes_of s)) (k : ℕ) (before : List ℕ) (few : length before < 6048) (r : List ℕ) where
  line_composes : (room : ℕ) → composed_from k before (lines_of (step_line s ++ r)) room ≡ composed_from (k + 1) (before ++ bytes_of s) (lines_of r) room
  unfolding composed_from
  line_composes room = rw (step_lines s ok.lawful r, reads_back s ok.lawful bytes, passes_good s ok, lt-ltb (length before) 6048 few)

  line-gathers : gathered before (lines_of (step_line s ++ r)) ≡ gathered (before ++ bytes_of s) (lines_of r)
  unfolding gathered
  line-gathers =
      ap (gathered before) (step_lines s ok.lawful r)
      ∙ ap (λ (l : Result (Option Step) NotAStep). gathered (with_line l before) (lines_of r)) (reads_back s ok.lawful bytes)

-- ---- the steps of an accepted file
part_bytes : (f : List ℕ) (a : ℕ) → Bytes f → Bytes (take 6 (drop a f))
part_bytes f a bytes i = go (dec_lt i 6)
  where
    go : Dec (i < 6) → get_or (take 6 (drop a f)) i 0 < 256
    go (yes h) = rw (get_d_part f a 6 i h) (bytes (a + i))
    go (no h) =
        let past : get_or (take 6 (drop a f)) i 0 ≡ 0 = get_or-eq_default (take 6 (drop a f)) 0 (omega (arith, length-take 6 (drop a f))) in
        omega arith

module _ (f : List ℕ) (m : ℕ) (bytes : Bytes f) (acc : checked f ≡ Ok m) where
  abbrev S : List ℕ
  S = steps_of f m

  -- step j, with its six bytes in the list of steps
  record There (j : ℕ) : Type 0 where
    step : Step
    answer : next_of f j ≡ Ok (Some step)
    passes : Passes step
    in_bytes : Bytes (bytes_of step)
    six : take 6 (drop (6 * j) S) ≡ bytes_of step

  size : length S ≡ 6 * m
  size = tab-length (λ p. get_or f (step_place InFile (p / 6) + p % 6) 0) (6 * m)

  there : (j : ℕ) → j < m → There j
  there j h =
      let hand = accepted-handed f m acc j h in
      let again = read-written f m bytes acc f (omega arith) in
      let back = written_read S (length f) (blocks f) again.answer in
      let same = back.each j (omega (arith, size)) in
      let file : file_of S ≡ f = file_again f m bytes (answer_says f acc) in
      let x : Step = hand.step in
      let y : Step = same.step in
      let found : Ok (Some y) ≡ Ok (Some x) = sym same.answer ∙ ap (λ (l : List ℕ). next_of l j) file ∙ hand.answer in
      let one : y ≡ x = cc in
      record {
        step = x;
        answer = hand.answer;
        passes = record { lawful = hand.lawful; useful = hand.useful };
        in_bytes = rw hand.bytes (part_bytes f (step_place InFile j) bytes);
        six = sym same.bytes ∙ ap bytes_of one;
      }

  few : m ≤ 1008
  few = (accepted_few f m acc).1

  -- the steps so far, with step n
  steps_next : (n : ℕ) → (h : n < m) → take (6 * n) S ++ bytes_of (there n h).step ≡ take (6 * suc n) S
  steps_next n h =
      let e : 6 * n + 6 ≡ 6 * suc n = omega arith in
      ap (◌++◌ (take (6 * n) S)) (sym (there n h).six) ∙ sym (take-add (6 * n) 6 S) ∙ ap (λ (k : ℕ). take k S) e

  text-split : (n : ℕ) → (h : n < m) → (r : List ℕ) → text_to f (suc n) ++ r ≡ text_to f n ++ (step_line (there n h).step ++ r)
  unfolding text_to
  text-split n h r =
      ap (λ (x : Result (Option Step) Refusal). (text_to f n ++ line_of_next x) ++ r) (there n h).answer ∙ append_assoc (text_to f n) (step_line (there n h).step) r

  below : (n : ℕ) → n < m → length (take (6 * n) S) < 6048
  below n h = let e : length (take (6 * n) S) ≡ 6 * n = length-take-le (6 * n) S (omega (arith, size)) in omega (arith, few)

  -- the lines of the first n steps, whatever text follows
  composes_to : (n : ℕ) → n ≤ m → (r : List ℕ) (room : ℕ) → composed_from 0 [] (lines_of (text_to f n ++ r)) room ≡ composed_from n (take (6 * n) S) (lines_of r) room
  unfolding text_to
  composes_to zero h r room = refl
  composes_to (suc n) h r room =
      let t = there n h in
      ap (λ (l : List ℕ). composed_from 0 [] (lines_of l) room) (text-split n h r)
      ∙ composes_to n (omega arith) (step_line t.step ++ r) room
      ∙ line_composes t.step t.passes t.in_bytes n (take (6 * n) S) (below n h) r room
      ∙ ap (λ (l : List ℕ). composed_from (n + 1) l (lines_of r) room) (steps_next n h)
      ∙ ap (λ (k : ℕ). composed_from k (take (6 * suc n) S) (lines_of r) room) (add-one n)

  gathers_to : (n : ℕ) → n ≤ m → (r : List ℕ) → gathered [] (lines_of (text_to f n ++ r)) ≡ gathered (take (6 * n) S) (lines_of r)
  unfolding text_to
  gathers_to zero h r = refl
  gathers_to (suc n) h r =
      let t = there n h in
      ap (λ (l : List ℕ). gathered [] (lines_of l)) (text-split n h r)
      ∙ gathers_to n (omega arith) (step_line t.step ++ r)
      ∙ line-gathers t.step t.passes t.in_bytes n (take (6 * n) S) (below n h) r
      ∙ ap (λ (l : List ℕ). gathered l (lines_of r)) (steps_next n h)

  all_steps : take (6 * m) S ≡ S
  all_steps = take_all (6 * m) S (omega (arith, size))

  whole : text_of f ≡ text_to f m ++ []
  whole = ap (text_to f) (answer_says f acc).count ∙ sym (append-nil (text_to f m))

  unmarked : text_lines (text_of f) ≡ lines_of (text_of f)
  unmarked = lines_unmarked (text_of f) (mark-none (text_of f) (text-first f (step_count f)))

  pub text_composes : (room : ℕ) → composed (text_of f) room ≡ of_writer (written S room)
  unfolding lines_from composed_from
  text_composes room =
      ap (λ (ls : List (List ℕ)). composed_from 0 [] ls room) unmarked
      ∙ ap (λ (l : List ℕ). composed_from 0 [] (lines_of l) room) whole ∙ composes_to m (omega arith) [] room ∙ ap (λ (l : List ℕ). of_writer (written l room)) all_steps

  pub text_file : file_of_text (text_of f) ≡ f
  unfolding lines_from gathered
  text_file =
      ap (λ (ls : List (List ℕ)). file_of (gathered [] ls)) unmarked
      ∙ ap (λ (l : List ℕ). file_of (gathered [] (lines_of l))) whole
      ∙ ap file_of (gathers_to m (omega arith) [] ∙ all_steps)
      ∙ file_again f m bytes (answer_says f acc)

-- composing what is shown of an accepted file: its number of blocks is the answer, and the output then holds the file
pub record SameAgain (f : List ℕ) (out : List ℕ) : Type 0 where
  pub answer : composed (text_of f) (length out) ≡ Ok (blocks f)
  pub left : left_by (Ok (blocks f)) (text_of f) out ≡ put out 0 f

pub same_file : (f : List ℕ) (m : ℕ) → Bytes f → checked f ≡ Ok m → (out : List ℕ) → length f ≤ length out → SameAgain f out
same_file f m bytes acc out h =
    let again = read-written f m bytes acc out h in
    record {
      answer = text_composes f m bytes acc (length out) ∙ ap of_writer again.answer;
      left = ap (put out 0) (text_file f m bytes acc);
    }
