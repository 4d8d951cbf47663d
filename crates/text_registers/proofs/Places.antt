-- Where a register stands in its line: the two characters of the k-th index stand behind the name of the first one, k cells and a
-- space. For a listed register they are its byte's digits, and read back they say the byte.
use Prim.Native.Nat.{ℕ, zero, suc, ◌+◌, ◌-◌, ◌*◌, ◌%◌, ◌<◌}
use native.Mathlib.Omega.{arith}
use native.Mathlib.Decide.{ℕ_discrete}
use mathlib.Core.Path.{◌≡◌, refl, sym, ap, ◌∙◌}
use mathlib.Core.List.{List, [], ◌∷◌, ◌++◌}
use lib.ListN.{length, take, drop, length-append, length-drop}
use lib.Seq.{take_all, take-append-le, drop-append-le, drop-append-add, drop_at, drop-drop}
use Rattle.chip_registers.specs.Groups.{group_at, row_of}
use Rattle.chip_registers.specs.declared.Group.{Group}
use Rattle.chip.specs.State.{Named}
use Rattle.chip.specs.Names.{register}
use Rattle.text.specs.Ascii.{ascii}
use Rattle.text.proofs.DigitLaws.{value_of, byte-read}
use Rattle.text_steps.specs.Written.{name_text}
use Rattle.text_registers.specs.Line.{shown, cell, joined, cells_to, across, line}
use Rattle.text_registers.proofs.Lengths.{joined_length, cell-length, cells_length}
use Rattle.std.specs.Prelude.{Option, Some}
use Rattle.chip_registers.specs.declared.Row.{Row}
use Rattle.chip_registers.specs.Rows.{listed}

-- a cell among cells
module _ (piece : ℕ → List ℕ) (three : (j : ℕ) → length (piece j) ≡ 3) where
  joined_at : (n k : ℕ) → k < n → take 3 (drop (k * 3) (joined piece n)) ≡ piece k
  unfolding joined
  joined_at zero k h = absurd (omega arith)
  joined_at (suc n) k h = go (ℕ_discrete k n) (joined_at n k)
    where
      go : Dec (k ≡ n) → (k < n → take 3 (drop (k * 3) (joined piece n)) ≡ piece k) → take 3 (drop (k * 3) (joined piece n ++ piece n)) ≡ piece k
      go (yes e) before =
          rw e
          (ap (take 3) (drop_at (joined piece n) (piece n) (n * 3) (joined_length piece 3 three n))
          ∙ take_all 3 (piece n) (omega (arith, three n)))
      go (no e) before =
          let l : length (joined piece n) ≡ n * 3 = joined_length piece 3 three n in
          let d : length (drop (k * 3) (joined piece n)) ≡ length (joined piece n) - k * 3 = length-drop (k * 3) (joined piece n) in
          ap (take 3) (drop-append-le (k * 3) (joined piece n) (piece n) (omega arith))
          ∙ take-append-le 3 (drop (k * 3) (joined piece n)) (piece n) (omega arith)
          ∙ before (omega arith)

-- without its space
second : (x : List ℕ) → take 2 (drop 1 x) ≡ drop 1 (take 3 x)
second [] = refl
second (a ∷ x) = refl

module _ (g : ℕ) (n : Named) (i k : ℕ) (h : k < across g) where
  -- where the two characters of an index stand in its line
  abbrev pub place : ℕ
  place = length (name_text g i) + 1 + k * 3

  abbrev group : Group
  group = group_at g

  pub shown-at : take 2 (drop place (line g n i)) ≡ shown (row_of (group_at g) (i + k)) (register (group_at g) n (i + k))
  unfolding line
  shown-at =
      let name : List ℕ = name_text g i in
      let cells : List ℕ = cells_to group n i (across g) in
      let l : length cells ≡ across g * 3 = cells_length group n i (across g) in
      let b : length (name ++ cells) ≡ length name + length cells = length-append name cells in
      let e : place ≡ length name + (k * 3 + 1) = omega arith in
      let d : length (drop (k * 3 + 1) cells) ≡ length cells - (k * 3 + 1) = length-drop (k * 3 + 1) cells in
      ap (take 2)
      (ap (λ (j : ℕ). drop j (name ++ cells ++ ascii "\n")) e
      ∙ drop-append-le (length name + (k * 3 + 1)) (name ++ cells) (ascii "\n") (omega arith)
      ∙ ap (λ (x : List ℕ). x ++ ascii "\n") (drop-append-add name cells (k * 3 + 1)))
      ∙ take-append-le 2 (drop (k * 3 + 1) cells) (ascii "\n") (omega arith)
      ∙ ap (take 2) (sym (drop-drop 1 (k * 3) cells))
      ∙ second (drop (k * 3) cells)
      ∙ ap (drop 1) (joined_at (λ (j : ℕ). cell group n (i + j)) (λ j. cell-length group n (i + j)) (across g) k h)

  -- a listed register's byte is read back from there
  pub register-read : (w r : ℕ) → row_of (group_at g) (i + k) ≡ Some (listed w r)
      → value_of 16 0 (take 2 (drop place (line g n i))) ≡ register (group_at g) n (i + k) % 256
  register-read w r e =
      ap (value_of 16 0) (shown-at ∙ ap (λ (x : Option Row). shown x (register group n (i + k))) e) ∙ byte-read (register group n (i + k))
