-- Writing the steps of an accepted file again: each block is decided by its number, its count and its steps,
-- since the rest of it has to be zero and there is only one check. So the writer makes the very same bytes.
use mathlib.Core.Path.{◌≡◌, sym, ap, ◌∙◌}
use mathlib.Core.List.{List}
use mathlib.Core.Bool.{true}
use Prim.Native.Nat.{ℕ, zero, suc, ◌+◌, ◌-◌, ◌*◌, ◌/◌, ◌%◌, ◌≤◌, ◌<◌, min}
use native.Mathlib.Decide.{ℕ_discrete, dec_lt}
use native.Mathlib.Omega.{arith}
use borrow.Author.Tests.{eqb-true, ne_eqb}
use lib.Dec.{eqb}
use lib.ListN.{length, take, get_or, length-take, length-drop, get_or-eq_default}
use lib.Seq.{get_or-take, ext_get_or, length-take-le}
use Rattle.lists.specs.Tab.{Bytes}
use Rattle.lists.proofs.Parts.{get_d_part}
use Rattle.lists.proofs.Scan.{every-at, first_end, end_first}
use Rattle.lists.proofs.Tab.{tab-length, tab-at}
use Rattle.lists.proofs.Tests.{Units, units, units_test}
use Rattle.script_steps.specs.Step.{is_good}
use Rattle.script.specs.Block.{with_check}
use Rattle.script.specs.File.{blocks, block, step_place, step_at, first_bad_step}
use Rattle.script.specs.declared.Layout.TheVariants.{Plain, Blocks as InBlocks}
use Rattle.script.proofs.Check.{check_only}
use Rattle.script.proofs.Checking.{Legal}
use Rattle.script.proofs.Counting.{block-kept, count_last, legal_few}
use Rattle.script.proofs.Rules.{Rules, count_few}
use Rattle.script_writer.specs.Write.{whole_steps, blocks_for, steps_here, front, block_of, blocks_to, file_of, written, steps_of}
use Rattle.script_writer.proofs.Back.{blocks_at, step_back}
use Rattle.script_writer.proofs.Blocks.{length_front, front-past, length-blocks}
use Rattle.script_writer.proofs.Writing.{says-written}
use Rattle.std.specs.Prelude.{Ok}

-- a fact of each of the first six places
six : (P : ℕ → Type 0) → P 0 → P 1 → P 2 → P 3 → P 4 → P 5 → (i : ℕ) → i < 6 → P i
six P a b c d e f zero h = a
six P a b c d e f (suc zero) h = b
six P a b c d e f (suc (suc zero)) h = c
six P a b c d e f (suc (suc (suc zero))) h = d
six P a b c d e f (suc (suc (suc (suc zero)))) h = e
six P a b c d e f (suc (suc (suc (suc (suc zero))))) h = f
six P a b c d e f (suc (suc (suc (suc (suc (suc i)))))) h = absurd (omega arith)

module _ (f : List ℕ) (m : ℕ) (bytes : Bytes f) (acc : Legal f m) where
  abbrev M : ℕ
  M = blocks f

  abbrev S : List ℕ
  S = steps_of f m

  file : Units 512 12 (length f)
  file = units 512 12 (length f) acc.whole

  length_steps : length S ≡ 6 * m
  length_steps = tab-length (λ p. get_or f (step_place InBlocks (p / 6) + p % 6) 0) (6 * m)

  length-there : (k : ℕ) → k < M → length (block f k) ≡ 512
  length-there k h = simp (length-take, length-drop) (omega arith)

  byte-there : (k r : ℕ) → r < 512 → get_or (block f k) r 0 ≡ get_or f (512 * k + r) 0
  byte-there k r h = get_d_part f (512 * k) 512 r h

  kept : (k : ℕ) → k < M → Rules (block f k) k (eqb (k + 1) M)
  kept k h = block-kept f m acc k h

  -- the steps of block k: 84, or in the last what is left
  record Here (k : ℕ) : Type 0 where
    some : 1 ≤ get_or (block f k) 2 0
    few : get_or (block f k) 2 0 ≤ 84
    inside : 84 * k + get_or (block f k) 2 0 ≤ m
    full : 84 * k + 84 ≤ m → get_or (block f k) 2 0 ≡ 84
    rest : m < 84 * k + 84 → m ≡ 84 * k + get_or (block f k) 2 0

  here : (k : ℕ) → k < M → Here k
  here k h = go (ℕ_discrete (k + 1) M)
    where
      go : Dec (k + 1 ≡ M) → Here k
      go (yes e) =
          let c = count_few (get_or (block f k) 2 0) (eqb (k + 1) M) (kept k h).count in
          let k' : M - 1 ≡ k = omega arith in
          let g : m ≡ 84 * k + get_or (block f k) 2 0 = count_last f m acc ∙ ap (λ (j : ℕ). 84 * j + get_or (block f j) 2 0) k' in
          record { some = c.0; few = c.1; inside = omega arith; full = λ l. omega arith; rest = λ l. omega arith }
      go (no e) =
          let c : get_or (block f k) 2 0 ≡ 84 = eqb-true (get_or (block f k) 2 0) 84 (rw (ne_eqb (k + 1) M e) at (kept k h).count) in
          let g = count_last f m acc in
          record { some = omega arith; few = omega arith; inside = omega arith; full = λ l. c; rest = λ l. omega arith }

  count_again : (k : ℕ) → k < M → steps_here S k ≡ get_or (block f k) 2 0
  count_again k h = go (length S) length_steps (here k h) (dec_lt m (84 * k + 84))
    where
      go : (n : ℕ) → n ≡ 6 * m → Here k → Dec (m < 84 * k + 84) → min 84 ((n - 504 * k) / 6) ≡ get_or (block f k) 2 0
      go n l g (yes p) = omega (arith, g.rest p)
      go n l g (no p) = omega (arith, g.full (omega arith))

  -- the header of block k
  header-again : (k : ℕ) → k < M → (i : ℕ) → i < 6 → get_or (front S k M) i 0 ≡ get_or (block f k) i 0
  unfolding front
  header-again k h =
      let o = kept k h in
      let x = bytes (512 * k + 0) in
      let y = bytes (512 * k + 1) in
      let bx = byte-there k 0 (omega arith) in
      let by = byte-there k 1 (omega arith) in
      six (λ i. get_or (front S k M) i 0 ≡ get_or (block f k) i 0)
      (omega arith) (omega arith) (count_again k h) (sym o.mark) (sym o.four) (sym o.five)

  -- its places
  step_byte : (k i : ℕ) → 6 ≤ i → i < 510 → 504 * k + (i - 6) < 6 * m → get_or S (504 * k + (i - 6)) 0 ≡ get_or f (512 * k + i) 0
  step_byte k i h₀ h₁ p =
      let e : step_place InBlocks ((504 * k + (i - 6)) / 6) + (504 * k + (i - 6)) % 6 ≡ 512 * k + i = omega arith in
      tab-at (λ p. get_or f (step_place InBlocks (p / 6) + p % 6) 0) (6 * m) (504 * k + (i - 6)) 0 p
      ∙ ap (λ (j : ℕ). get_or f j 0) e

  places-again : (k : ℕ) → k < M → (i : ℕ) → 6 ≤ i → i < 510 → get_or (front S k M) i 0 ≡ get_or (block f k) i 0
  places-again k h i h₀ h₁ = front-past S k M i h₀ h₁ ∙ go (dec_lt (504 * k + (i - 6)) (6 * m))
    where
      go : Dec (504 * k + (i - 6) < 6 * m) → get_or S (504 * k + (i - 6)) 0 ≡ get_or (block f k) i 0
      go (yes p) = step_byte k i h₀ h₁ p ∙ sym (byte-there k i (omega arith))
      go (no p) =
          let r : m ≡ 84 * k + get_or (block f k) 2 0 = (here k h).rest (omega arith) in
          let c = (here k h).few in
          get_or-eq_default S 0 (omega (arith, length_steps))
          ∙ sym (eqb-true (get_or (block f k) i 0) 0
          (every-at (λ p. eqb (get_or (block f k) p 0) 0) (6 + 6 * get_or (block f k) 2 0) (510 - (6 + 6 * get_or (block f k) 2 0)) (kept k h).unused i (omega arith) (omega arith)))

  block-again : (k : ℕ) → k < M → block_of S k M ≡ block f k
  block-again k h =
      let l = length-there k h in
      let e : front S k M ≡ take 510 (block f k) = ext_get_or 0 _ _ same at in
      ap with_check e ∙ check_only (block f k) l (byte 510 (omega arith)) (byte 511 (omega arith)) (kept k h).sum
    where
      byte : (r : ℕ) → r < 512 → get_or (block f k) r 0 < 256
      byte r hr = omega (arith, byte-there k r hr, bytes (512 * k + r))

      same : length (front S k M) ≡ length (take 510 (block f k))
      same = length_front S k M ∙ sym (length-take-le 510 (block f k) (omega (arith, length-there k h)))

      at : (i : ℕ) → i < length (front S k M) → get_or (front S k M) i 0 ≡ get_or (take 510 (block f k)) i 0
      at i hi = go (dec_lt i 6) ∙ sym (get_or-take 510 (block f k) i 0 (omega (arith, length_front S k M)))
        where
          go : Dec (i < 6) → get_or (front S k M) i 0 ≡ get_or (block f k) i 0
          go (yes p) = header-again k h i p
          go (no p) = places-again k h i (omega arith) (omega (arith, length_front S k M))

  -- as many blocks
  blocks-again : blocks_for S ≡ M
  blocks-again =
      let w = file in
      let g = here (M - 1) (omega arith) in
      let c = g.some in
      let d = g.few in
      omega (arith, count_last f m acc, length_steps)

  -- the same bytes
  pub file_again : file_of S ≡ f
  file_again =
      let w = file in
      ap (λ (n : ℕ). blocks_to S n n) blocks-again ∙ ext_get_or 0 _ _ (length-blocks S M M ∙ omega arith) at
    where
      at : (i : ℕ) → i < length (blocks_to S M M) → get_or (blocks_to S M M) i 0 ≡ get_or f i 0
      at i hi =
          let l = length-blocks S M M in
          let e : 512 * (i / 512) + i % 512 ≡ i = omega arith in
          blocks_at S M M i (omega arith)
          ∙ ap (λ (b : List ℕ). get_or b (i % 512) 0) (block-again (i / 512) (omega arith))
          ∙ byte-there (i / 512) (i % 512) (omega arith)
          ∙ ap (λ (j : ℕ). get_or f j 0) e

  -- ---- and the writer takes the list
  list_whole : whole_steps S ≡ true
  list_whole =
      let l = length_steps in
      let g = legal_few f m acc in
      units_test 6 1008 (length S) (record { even = omega arith; some = omega arith; few = omega arith })

  pub step_again : (j : ℕ) → j < m → step_at Plain S j ≡ step_at InBlocks f j
  step_again j h = sym (step_back S list_whole j (omega (arith, length_steps))) ∙ ap (λ (g : List ℕ). step_at InBlocks g j) file_again

  list_good : first_bad_step Plain S (length S / 6) ≡ length S / 6
  list_good = first_end _ (length S / 6) λ j h.
      let k : j < m = omega (arith, length_steps) in
      ap is_good (step_again j k) ∙ end_first (λ i. is_good (step_at InBlocks f i)) m acc.steps_legal j k

  pub written-again : (room : ℕ) → length f ≤ room → written S room ≡ Ok M
  written-again room h =
      says-written S room (Ok M) (record {
        legal = record { whole = list_whole; steps_legal = list_good };
        many = blocks-again;
        fits = omega arith;
      })
