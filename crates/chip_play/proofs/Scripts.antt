-- Demand 3 speaks of every script: each list of 1 to 1,008 steps that pass is the list of steps of an accepted file
-- (`script_there`), the one that the writer makes of their bytes. That the steps of an accepted file are as many as it says and
-- have the bytes at its places is `steps_counted` and `steps_stand`, proofs/Counted of the crate script_commands.
use Prim.Native.Nat.{ℕ, zero, suc, ◌+◌, ◌*◌, ◌/◌, ◌%◌, ◌≤◌, ◌<◌}
use native.Mathlib.Omega.{arith}
use mathlib.Core.Bool.{Bool, true, false}
use mathlib.Core.Path.{◌≡◌, refl, sym, ap, ◌∙◌}
use mathlib.Core.List.{List, [], ◌∷◌, ◌++◌, append_assoc, append-nil}
use lib.ListN.{length, take, drop, get_or, length-append}
use lib.Seq.{take_at, drop_at}
use lib.Dec.{eqb}
use Rattle.lists.specs.Tab.{Bytes}
use Rattle.lists.proofs.Tab.{tab-bytes}
use Rattle.lists.proofs.Scan.{first_end}
use Rattle.lists.proofs.Tests.{units_test}
use Rattle.script_steps.specs.Step.{bytes_of, step_of, is_good}
use Rattle.script_steps.specs.declared.Step.{Step}
use Rattle.script_steps.proofs.Codec.{read-written, bytes-length}
use Rattle.script_steps.proofs.Lawful.{Passes, passes_good}
use Rattle.script.specs.Block.{last_mark, check_word}
use Rattle.script.specs.File.{step_at, first_bad_step, checked}
use Rattle.script.specs.Reader.{as_next, next_of}
use Rattle.script.specs.declared.Layout.TheVariants.{Plain}
use Rattle.script_writer.specs.Write.{whole_steps, header, places, front, block_of, blocks_to, blocks_for, file_of}
use Rattle.script_writer.proofs.Back.{accepted_back, next_back}
use Rattle.script_commands.specs.Translation.{handed, steps_to}
use Rattle.script_commands.proofs.Counted.{sixes, sixes-append}
use Rattle.std.specs.Prelude.{Result, Option, Ok, Some}
use Rattle.script_steps.specs.declared.Fault.{Fault}
use Rattle.script.specs.declared.Refusal.{Refusal}

-- steps that pass, and steps of bytes
abbrev pub AllPass : List Step → Type 0
AllPass [] = Unit {0}
AllPass (s ∷ ss) = Passes s × AllPass ss

abbrev pub AllBytes : List Step → Type 0
AllBytes [] = Unit {0}
AllBytes (s ∷ ss) = Bytes (bytes_of s) × AllBytes ss

-- ---- the bytes of steps
length-sixes : (ss : List Step) → length (sixes ss) ≡ 6 * length ss
unfolding sixes
length-sixes [] = refl
length-sixes (s ∷ ss) =
    let h : length (sixes ss) ≡ 6 * length ss = length-sixes ss in
    let k : length (bytes_of s) ≡ 6 = bytes-length s in
    simp length-append (omega arith)

sixes_next : (s : Step) (ss : List Step) → sixes (s ∷ ss) ≡ bytes_of s ++ sixes ss
unfolding sixes
sixes_next s ss = refl

-- the step behind those of `before`
six-there : (before : List Step) (s : Step) (after : List Step) (j : ℕ) → length before ≡ j → take 6 (drop (6 * j) (sixes (before ++ s ∷ after))) ≡ bytes_of s
six-there before s after j at =
    let size : length (sixes before) ≡ 6 * j = length-sixes before ∙ ap (λ (n : ℕ). 6 * n) at in
    ap (λ (l : List ℕ). take 6 (drop (6 * j) l)) (sixes-append before (s ∷ after) ∙ ap (◌++◌ (sixes before)) (sixes_next s after))
    ∙ ap (take 6) (drop_at (sixes before) (bytes_of s ++ sixes after) (6 * j) size) ∙ take_at (bytes_of s) (sixes after) 6 (bytes-length s)

-- ---- a list taken apart at a place
record Split (ss : List Step) (j : ℕ) : Type 0 where
  before : List Step
  step : Step
  after : List Step
  whole : ss ≡ before ++ step ∷ after
  at : length before ≡ j
  passes : Passes step

split : (ss : List Step) → AllPass ss → (j : ℕ) → j < length ss → Split ss j
split [] good j h = absurd (omega arith)
split (s ∷ ss) good zero h = record { before = []; step = s; after = ss; whole = refl; at = refl; passes = good.0 }
split (s ∷ ss) good (suc j) h =
    let p = split ss good.1 j (omega arith) in
    record { before = s ∷ p.before; step = p.step; after = p.after; whole = ap (◌∷◌ s) p.whole; at = ap suc p.at; passes = p.passes }

module _ (ss : List Step) (some : 1 ≤ length ss) (few : length ss ≤ 1008) (good : AllPass ss) where
  -- each is read where it stands
  read-there : (before : List Step) (s : Step) (after : List Step) → ss ≡ before ++ s ∷ after → Passes s → step_at Plain (sixes ss) (length before) ≡ Ok s
  read-there before s after whole ok =
      ap (λ (l : List Step). step_at Plain (sixes l) (length before)) whole ∙ ap step_of (six-there before s after (length before) refl)
      ∙ read-written s ∙ passes_good s ok

  good_there : (j : ℕ) → j < length ss → is_good (step_at Plain (sixes ss) j) ≡ true
  good_there j h =
      let p = split ss good j h in
      ap (λ (i : ℕ). is_good (step_at Plain (sixes ss) i)) (sym p.at) ∙ ap is_good (read-there p.before p.step p.after p.whole p.passes)

  -- ---- the file
  abbrev file : List ℕ
  file = file_of (sixes ss)

  many : length (sixes ss) / 6 ≡ length ss
  many = omega (arith, length-sixes ss)

  whole_steps_lem : whole_steps (sixes ss) ≡ true
  whole_steps_lem =
      let l : length (sixes ss) ≡ 6 * length ss = length-sixes ss in
      units_test 6 1008 (length (sixes ss)) (record { even = omega arith; some = omega arith; few = omega arith })

  all_good : first_bad_step Plain (sixes ss) (length (sixes ss) / 6) ≡ length (sixes ss) / 6
  all_good = first_end (λ j. is_good (step_at Plain (sixes ss) j)) (length (sixes ss) / 6) λ j h. good_there j (omega (arith, many))

  taken : checked file ≡ Ok (length ss)
  taken = accepted_back (sixes ss) whole_steps_lem all_good ∙ ap Ok many

  -- the reader hands out each
  found_there : (before : List Step) (s : Step) (after : List Step) → ss ≡ before ++ s ∷ after → Passes s → next_of file (length before) ≡ Ok (Some s)
  found_there before s after whole ok =
      let n : length ss ≡ length before + suc (length after) = ap length whole ∙ length-append before (s ∷ after) in
      next_back (sixes ss) whole_steps_lem all_good (length before) (omega (arith, many))
      ∙ ap (λ (r : Result Step Fault). as_next r (length before)) (read-there before s after whole ok)

  steps_from : (before after : List Step) → ss ≡ before ++ after → AllPass after → steps_to file (length before) ≡ before → steps_to file (length ss) ≡ ss
  unfolding steps_to
  steps_from before [] whole ok so_far =
      let e : ss ≡ before = whole ∙ append-nil before in
      ap (λ (n : ℕ). steps_to file n) (ap length e) ∙ so_far ∙ sym e
  steps_from before (s ∷ after) whole ok so_far =
      let n : length (before ++ s ∷ []) ≡ suc (length before) = simp length-append (omega arith) in
      steps_from (before ++ s ∷ []) after (whole ∙ sym (append_assoc before (s ∷ []) after)) ok.1
      (ap (λ (k : ℕ). steps_to file k) n ∙ ap (λ (l : List Step). l ++ handed (next_of file (length before))) so_far
      ∙ ap (λ (x : Result (Option Step) Refusal). before ++ handed x) (found_there before s after whole ok.0))

  these : steps_to file (length ss) ≡ ss
  unfolding steps_to
  these = steps_from [] ss refl good refl

-- ---- the file is one of bytes
abbrev Each : List ℕ → Type 0
Each [] = Unit {0}
Each (x ∷ l) = (x < 256) × Each l

each-bytes : (l : List ℕ) → Each l → Bytes l
each-bytes [] e i = omega arith
each-bytes (x ∷ l) e zero = e.0
each-bytes (x ∷ l) e (suc i) = each-bytes l e.1 i

bytes-append : (x y : List ℕ) → Bytes x → Bytes y → (i : ℕ) → get_or (x ++ y) i 0 < 256
bytes-append [] y a b i = b i
bytes-append (v ∷ x) y a b zero = a 0
bytes-append (v ∷ x) y a b (suc i) = bytes-append x y (λ j. a (suc j)) b i

mark-byte : (last : Bool) → last_mark last < 256
mark-byte true = omega arith
mark-byte false = omega arith

bytes-sixes : (ss : List Step) → AllBytes ss → Bytes (sixes ss)
unfolding sixes
bytes-sixes [] b = each-bytes [] tt
bytes-sixes (s ∷ ss) b = bytes-append (bytes_of s) (sixes ss) b.0 (bytes-sixes ss b.1)

bytes-front : (s : List ℕ) (k n : ℕ) → k < 12 → Bytes s → Bytes (front s k n)
unfolding front
bytes-front s k n h b =
    bytes-append (header s k n) (places s k)
    (each-bytes (header s k n) (omega arith, (omega arith, (omega arith, (mark-byte (eqb (k + 1) n), (omega arith, (omega arith, tt)))))))
    (tab-bytes (λ p. get_or s (504 * k + p) 0) (λ p. b (504 * k + p)) 504)

bytes-blocks : (s : List ℕ) (n k : ℕ) → k ≤ 12 → Bytes s → Bytes (blocks_to s n k)
unfolding blocks_to
bytes-blocks s n zero h b = each-bytes [] tt
bytes-blocks s n (suc k) h b =
    bytes-append (blocks_to s n k) (block_of s k n) (bytes-blocks s n k (omega arith) b)
    (bytes-append (front s k n) (check_word (front s k n) % 256 ∷ check_word (front s k n) / 256 ∷ []) (bytes-front s k n (omega arith) b)
    (each-bytes (check_word (front s k n) % 256 ∷ check_word (front s k n) / 256 ∷ []) (omega arith, (omega arith, tt))))

-- ---- to read: for every list of 1 to 1,008 steps that pass there is an accepted file whose steps are that list
pub record ScriptOf (ss : List Step) : Type 0 where
  pub file : List ℕ
  pub accepted : checked file ≡ Ok (length ss)
  pub steps : steps_to file (length ss) ≡ ss
  pub bytes : AllBytes ss → Bytes file

pub script_there : (ss : List Step) → 1 ≤ length ss → length ss ≤ 1008 → AllPass ss → ScriptOf ss
script_there ss some few good = record {
  file = file_of (sixes ss);
  accepted = taken ss some few good;
  steps = these ss some few good;
  bytes = λ b. bytes-blocks (sixes ss) (blocks_for (sixes ss)) (blocks_for (sixes ss)) (omega (arith, length-sixes ss)) (bytes-sixes ss b);
}
