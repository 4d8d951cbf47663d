-- Reading back what the writer wrote: the file is accepted, it has as many steps as the list, its steps one
-- after another are the list, and the reader hands out at each number the step of the list. The blocks keep
-- every rule by their making, and a byte of a step is found where it was put.
use mathlib.Core.Path.{◌≡◌, refl, sym, ap, ◌∙◌}
use mathlib.Core.List.{List, ◌++◌}
use mathlib.Core.Bool.{true}
use Prim.Native.Nat.{ℕ, zero, suc, ◌+◌, ◌-◌, ◌*◌, ◌/◌, ◌%◌, ◌≤◌, ◌<◌}
use native.Mathlib.Decide.{ℕ_discrete, dec_lt}
use native.Mathlib.Omega.{arith}
use borrow.Author.Tests.{le-leb, eq-eqb, ne_eqb}
use lib.Dec.{eqb}
use lib.ListN.{length, take, drop, get_or, length-take, length-drop, get_or-append, get_or-eq_default}
use lib.Seq.{ext_get_or}
use Rattle.lists.proofs.Parts.{get_d_part}
use Rattle.std.proofs.Math.Seq.{get_or-append_right}
use Rattle.lists.proofs.Scan.{every_all, first_end, end_first}
use Rattle.lists.proofs.Tab.{tab-length, tab-at}
use Rattle.lists.proofs.Tests.{Units, units, units_test}
use Rattle.script_steps.specs.Step.{step_of, is_good}
use Rattle.script.specs.Block.{count_legal, unused_zero, block_legal}
use Rattle.script.specs.File.{whole_blocks, blocks, block, legal_at, first_bad_block, step_count, step_place, step_at, first_bad_step, checked}
use Rattle.script.specs.Reader.{as_next, next_of}
use Rattle.script.specs.declared.Layout.TheVariants.{Plain, Blocks as InBlocks}
use Rattle.script.proofs.Check.{check_makes}
use Rattle.script.proofs.Checking.{says-checked}
use Rattle.script.proofs.Reading.{next_there}
use Rattle.script.proofs.Rules.{Rules, rules_legal}
use Rattle.script_writer.specs.Write.{whole_steps, blocks_for, steps_here, front, block_of, blocks_to, file_of, steps_of}
use Rattle.script_writer.proofs.Blocks.{length_front, front-past, length-block, length-blocks}
use Rattle.std.specs.Prelude.{Ok}

-- ---- where a byte of the file stands
pub blocks_at : (s : List ℕ) (n k i : ℕ) → i < 512 * k → get_or (blocks_to s n k) i 0 ≡ get_or (block_of s (i / 512) n) (i % 512) 0
unfolding blocks_to
blocks_at s n zero i h = absurd (omega arith)
blocks_at s n (suc k) i h = go (dec_lt i (512 * k)) (blocks_at s n k i)
  where
    go : Dec (i < 512 * k) → (i < 512 * k → get_or (blocks_to s n k) i 0 ≡ get_or (block_of s (i / 512) n) (i % 512) 0)
        → get_or (blocks_to s n k ++ block_of s k n) i 0 ≡ get_or (block_of s (i / 512) n) (i % 512) 0
    go (yes p) ih = get_or-append (blocks_to s n k) (block_of s k n) 0 i (omega (arith, length-blocks s n k)) ∙ ih p
    go (no p) ih =
        let l = length-blocks s n k in
        let a : i - length (blocks_to s n k) ≡ i % 512 = omega arith in
        let b : k ≡ i / 512 = omega arith in
        get_or-append_right (blocks_to s n k) (block_of s k n) i 0 (omega arith)
        ∙ ap (λ (j : ℕ). get_or (block_of s k n) j 0) a
        ∙ ap (λ (j : ℕ). get_or (block_of s j n) (i % 512) 0) b

-- block k of the file
block_at : (s : List ℕ) (n k : ℕ) → k < n → block (blocks_to s n n) k ≡ block_of s k n
block_at s n k h = ext_get_or 0 _ _ same λ i hi. at i (omega (arith, same, length-block s k n))
  where
    same : length (block (blocks_to s n n) k) ≡ length (block_of s k n)
    same = simp (length-take, length-drop, length-blocks, length-block) (omega arith)

    at : (i : ℕ) → i < 512 → get_or (block (blocks_to s n n) k) i 0 ≡ get_or (block_of s k n) i 0
    at i hi =
        let a : (512 * k + i) % 512 ≡ i = omega arith in
        let b : (512 * k + i) / 512 ≡ k = omega arith in
        get_d_part (blocks_to s n n) (512 * k) 512 i hi
        ∙ blocks_at s n n (512 * k + i) (omega arith)
        ∙ ap (λ (j : ℕ). get_or (block_of s j n) ((512 * k + i) % 512) 0) b
        ∙ ap (λ (j : ℕ). get_or (block_of s k n) j 0) a

-- a byte of a step
place_at_lem : (s : List ℕ) (n i : ℕ) → i < 512 * n → 6 ≤ i % 512 → i % 512 < 510
    → get_or (blocks_to s n n) i 0 ≡ get_or s (504 * (i / 512) + (i % 512 - 6)) 0
place_at_lem s n i h h₀ h₁ =
    blocks_at s n n i h
    ∙ get_or-append (front s (i / 512) n) _ 0 (i % 512) (omega (arith, length_front s (i / 512) n))
    ∙ front-past s (i / 512) n (i % 512) h₀ h₁

-- ---- the writer's blocks keep every rule
module _ (s : List ℕ) (n : ℕ) (even : length s % 6 ≡ 0) (many : n ≡ blocks_for s) (k : ℕ) (h : k < n) where
  count_ok : count_legal (steps_here s k) (eqb (k + 1) n) ≡ true
  count_ok = go (ℕ_discrete (k + 1) n)
    where
      go : Dec (k + 1 ≡ n) → count_legal (steps_here s k) (eqb (k + 1) n) ≡ true
      go (yes e) = rw (eq-eqb _ _ e, le-leb 1 (steps_here s k) (omega arith), le-leb (steps_here s k) 84 (omega arith))
      go (no e) = rw (ne_eqb _ _ e) (eq-eqb (steps_here s k) 84 (omega arith))

  unused : unused_zero (block_of s k n) (steps_here s k) ≡ true
  unused = every_all (λ p. eqb (get_or (block_of s k n) p 0) 0) (6 + 6 * steps_here s k) (510 - (6 + 6 * steps_here s k)) λ p hp hn.
      eq-eqb _ _ (
      get_or-append (front s k n) _ 0 p (omega (arith, length_front s k n))
      ∙ front-past s k n p (omega arith) (omega arith)
      ∙ get_or-eq_default s 0 (past p hp (omega arith)))
    where
      past : (p : ℕ) → 6 + 6 * steps_here s k ≤ p → p < 510 → length s ≤ 504 * k + (p - 6)
      past p hp hn = omega arith

  rules : Rules (block_of s k n) k (eqb (k + 1) n)
  unfolding front
  rules = record {
    size = length-block s k n;
    number = omega arith;
    mark = refl;
    four = refl;
    five = refl;
    count = count_ok;
    unused = unused;
    sum = check_makes (front s k n) (length_front s k n);
  }

-- ---- the file of a list of whole steps
module _ (s : List ℕ) (w : whole_steps s ≡ true) where
  abbrev N : ℕ
  N = blocks_for s

  abbrev m : ℕ
  m = length s / 6

  list : Units 6 1008 (length s)
  list = units 6 1008 (length s) w

  file_length : length (file_of s) ≡ 512 * N
  file_length = length-blocks s N N

  file_blocks : blocks (file_of s) ≡ N
  file_blocks = omega (arith, file_length)

  file_whole : whole_blocks (file_of s) ≡ true
  file_whole =
      let l = list in
      let f = file_length in
      units_test 512 12 (length (file_of s)) (record { even = omega arith; some = omega arith; few = omega arith })

  file_legal : first_bad_block (file_of s) ≡ blocks (file_of s)
  file_legal = first_end (legal_at (file_of s)) (blocks (file_of s)) λ k hk.
      let hk' : k < N = omega (arith, file_blocks) in
      ap (λ (n : ℕ). block_legal (block (file_of s) k) k (eqb (k + 1) n)) file_blocks
      ∙ ap (λ (b : List ℕ). block_legal b k (eqb (k + 1) N)) (block_at s N k hk')
      ∙ rules_legal _ _ _ (rules s N list.even refl k hk')

  -- the count of the last block
  last_count : get_or (file_of s) (512 * (N - 1) + 2) 0 ≡ steps_here s (N - 1)
  unfolding front
  last_count =
      let l = list in
      let a : (512 * (N - 1) + 2) / 512 ≡ N - 1 = omega arith in
      let b : (512 * (N - 1) + 2) % 512 ≡ 2 = omega arith in
      blocks_at s N N (512 * (N - 1) + 2) (omega arith)
      ∙ ap (λ (i : ℕ). get_or (block_of s i N) ((512 * (N - 1) + 2) % 512) 0) a
      ∙ ap (λ (i : ℕ). get_or (block_of s (N - 1) N) i 0) b

  file_count : step_count (file_of s) ≡ m
  unfolding step_count
  file_count =
      let l = list in
      let z : blocks (file_of s) ≡ 0 → ⊥ = λ e. omega (arith, file_blocks) in
      rw (ne_eqb (blocks (file_of s)) 0 z) (
      ap (λ (n : ℕ). 84 * (n - 1) + get_or (file_of s) (512 * (n - 1) + 2) 0) file_blocks
      ∙ omega (arith, last_count))

  step_byte : (j : ℕ) → j < m → (q : ℕ) → q < 6 → get_or (file_of s) (step_place InBlocks j + q) 0 ≡ get_or s (6 * j + q) 0
  step_byte j h q hq =
      let l = list in
      let e : 504 * ((step_place InBlocks j + q) / 512) + ((step_place InBlocks j + q) % 512 - 6) ≡ 6 * j + q = omega arith in
      place_at_lem s N (step_place InBlocks j + q) (omega arith) (omega arith) (omega arith) ∙ ap (λ (i : ℕ). get_or s i 0) e

  step_inside : (j : ℕ) → j < m → step_place InBlocks j + 5 < 512 * N
  step_inside j h = let l = list in omega arith

  -- the six bytes of step j of the file are those of the list
  pub six_back : (j : ℕ) → j < m → take 6 (drop (step_place InBlocks j) (file_of s)) ≡ take 6 (drop (6 * j) s)
  six_back j h = ext_get_or 0 _ _ same at
    where
      size : length (take 6 (drop (step_place InBlocks j) (file_of s))) ≡ 6
      size = simp (length-take, length-drop) (omega (arith, file_length, step_inside j h))

      same : length (take 6 (drop (step_place InBlocks j) (file_of s))) ≡ length (take 6 (drop (6 * j) s))
      same = size ∙ simp (length-take, length-drop) (omega arith)

      at : (q : ℕ) → q < length (take 6 (drop (step_place InBlocks j) (file_of s)))
          → get_or (take 6 (drop (step_place InBlocks j) (file_of s))) q 0 ≡ get_or (take 6 (drop (6 * j) s)) q 0
      at q hq =
          let z = size in
          get_d_part (file_of s) (step_place InBlocks j) 6 q (omega arith)
          ∙ step_byte j h q (omega arith)
          ∙ sym (get_d_part s (6 * j) 6 q (omega arith))

  pub step_back : (j : ℕ) → j < m → step_at InBlocks (file_of s) j ≡ step_at Plain s j
  step_back j h = ap step_of (six_back j h)

  -- the steps of the file, one after another, are the list
  pub steps_back : steps_of (file_of s) m ≡ s
  steps_back = ext_get_or 0 _ _ (tab-length _ (6 * m) ∙ omega (arith, list)) at
    where
      at : (p : ℕ) → p < length (steps_of (file_of s) m) → get_or (steps_of (file_of s) m) p 0 ≡ get_or s p 0
      at p hp =
          let l = tab-length (λ p. get_or (file_of s) (step_place InBlocks (p / 6) + p % 6) 0) (6 * m) in
          let e : 6 * (p / 6) + p % 6 ≡ p = omega arith in
          tab-at (λ p. get_or (file_of s) (step_place InBlocks (p / 6) + p % 6) 0) (6 * m) p 0 (omega arith)
          ∙ step_byte (p / 6) (omega arith) (p % 6) (omega arith)
          ∙ ap (λ (i : ℕ). get_or s i 0) e

  module _ (good : first_bad_step Plain s m ≡ m) where
    file_steps : first_bad_step InBlocks (file_of s) m ≡ m
    file_steps = first_end _ m λ j h. ap is_good (step_back j h) ∙ end_first (λ i. is_good (step_at Plain s i)) m good j h

    pub accepted_back : checked (file_of s) ≡ Ok m
    accepted_back = says-checked (file_of s) (Ok m) (record { whole = file_whole; blocks-legal = file_legal; count = file_count; steps_legal = file_steps })

    -- the reader over the file hands out the steps of the list
    pub next_back : (j : ℕ) → j < m → next_of (file_of s) j ≡ as_next (step_at Plain s j) j
    next_back j h = next_there (file_of s) j (omega (arith, file_count)) ∙ ap (λ r. as_next r j) (step_back j h)
