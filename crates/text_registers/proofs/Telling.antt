-- The text tells every listed register: where two states have the same text, each listed register holds the same byte in
-- both. Pieces are as long in one state as in the other, so equal texts have equal pieces: paragraphs, then lines, then
-- cells.
use Prim.Native.Nat.{ℕ, zero, suc, ◌+◌, ◌*◌, ◌/◌, ◌%◌, ◌<◌}
use native.Mathlib.Omega.{arith}
use native.Mathlib.Decide.{ℕ_discrete}
use mathlib.Core.Bool.{Bool, true, false, ◌||◌}
use mathlib.Core.Logic.{◌⊎◌, inl, inr}
use mathlib.Core.Path.{◌≡◌, refl, sym, ap, ◌∙◌}
use mathlib.Core.List.{List, ◌++◌}
use lib.ListN.{length, take, drop, length-append}
use lib.Seq.{take-append_seam, drop-append_seam}
use Rattle.chip_registers.specs.Groups.{number_of, group_at, row_of}
use Rattle.chip_registers.specs.declared.Group.{Group}
use Rattle.chip_registers.specs.declared.Group.TheVariants.{Cr, Sr, Gr, Xr, Fr, Mr, Msr, Palmask, Ar}
use Rattle.chip_registers.proofs.TableLaws.{group_numbered}
use Rattle.chip.specs.State.{Named}
use Rattle.chip.specs.Names.{register}
use Rattle.text.proofs.DigitLaws.{value_of, byte-read}
use Rattle.text_steps.specs.Written.{name_text}
use Rattle.text_registers.specs.Line.{cell, joined, cells_to, across, line}
use Rattle.text_registers.specs.Text.{is_listed, any_listed, line_at, lines_to, paragraph, dumped}
use Rattle.text_registers.proofs.Lengths.{cells_length, joined_same, cell_same, line_at_same, lines_same, paragraph-same}
use Rattle.std.specs.Prelude.{Some}
use Rattle.chip_registers.specs.Rows.{listed}

-- ---- parts of equal texts
parts : {x y : List ℕ} (a b : List ℕ) → length a ≡ length b → a ++ x ≡ b ++ y → (a ≡ b) × (x ≡ y)
parts {x} {y} a b l e = (
  sym (take-append_seam a x) ∙ ap (take (length a)) e ∙ ap (λ (k : ℕ). take k (b ++ y)) l ∙ take-append_seam b y,
  sym (drop-append_seam a x) ∙ ap (drop (length a)) e ∙ ap (λ (k : ℕ). drop k (b ++ y)) l ∙ drop-append_seam b y,
)

module _ (p q : ℕ → List ℕ) (each : (j : ℕ) → length (p j) ≡ length (q j)) where
  joined-tells : (k j : ℕ) → j < k → joined p k ≡ joined q k → p j ≡ q j
  unfolding joined
  joined-tells zero j h e = absurd (omega arith)
  joined-tells (suc k) j h e =
      let (before, last) = parts (joined p k) (joined q k) (joined_same p q each k) e in
      go (ℕ_discrete j k) last (λ w. joined-tells k j w before)
    where
      go : Dec (j ≡ k) → p k ≡ q k → (j < k → p j ≡ q j) → p j ≡ q j
      go (yes w) last before = ap p w ∙ last ∙ ap q (sym w)
      go (no w) last before = before (omega arith)

-- ---- a line that has a listed register is there
any_one : (g : Group) (i k j : ℕ) → j < k → is_listed (row_of g (i + j)) ≡ true → any_listed g i k ≡ true
unfolding any_listed
any_one g i zero j h e = absurd (omega arith)
any_one g i (suc k) j h e = go (ℕ_discrete j k) (any_one g i k j)
  where
    go : Dec (j ≡ k) → (j < k → is_listed (row_of g (i + j)) ≡ true → any_listed g i k ≡ true)
        → (any_listed g i k || is_listed (row_of g (i + k))) ≡ true
    go (yes w) before = last (any_listed g i k) (ap (λ (x : ℕ). is_listed (row_of g (i + x))) (sym w) ∙ e)
      where
        last : (b : Bool) {c : Bool} → c ≡ true → (b || c) ≡ true
        last true f = refl
        last false f = f
    go (no w) before = rw (before (omega arith) e)

-- ---- what equal texts say, from the whole to a cell
module _ (n m : Named) (same : dumped n ≡ dumped m) (g : ℕ) (low : g < 9) where
  paragraph-told : paragraph g n ≡ paragraph g m
  paragraph-told = joined-tells (λ (k : ℕ). paragraph k n) (λ (k : ℕ). paragraph k m) (λ k. paragraph-same n m k) 9 g low same

  lines_told : lines_to g n (across g) ≡ lines_to g m (across g)
  unfolding paragraph
  lines_told = (parts (lines_to g n (across g)) (lines_to g m (across g)) (lines_same n m g (across g)) paragraph-told).0

  line-told : (i : ℕ) → any_listed (group_at g) i (across g) ≡ true → line_at g n i ≡ line_at g m i → line g n i ≡ line g m i
  unfolding line_at
  line-told i there e = rw there at e

  cells_told : (i : ℕ) → line g n i ≡ line g m i → cells_to (group_at g) n i (across g) ≡ cells_to (group_at g) m i (across g)
  unfolding line
  cells_told i e =
      let name : List ℕ = name_text g i in
      let x : List ℕ = cells_to (group_at g) n i (across g) in
      let y : List ℕ = cells_to (group_at g) m i (across g) in
      let l : length x ≡ length y = cells_length (group_at g) n i (across g) ∙ sym (cells_length (group_at g) m i (across g)) in
      let a : length (name ++ x) ≡ length name + length x = length-append name x in
      let b : length (name ++ y) ≡ length name + length y = length-append name y in
      (parts name name refl (parts (name ++ x) (name ++ y) (omega arith) e).0).1

  cell-told : (q k : ℕ) → q < across g → k < across g → is_listed (row_of (group_at g) (16 * q + k)) ≡ true
      → cell (group_at g) n (16 * q + k) ≡ cell (group_at g) m (16 * q + k)
  cell-told q k hq hk has =
      let l = joined-tells (λ (j : ℕ). line_at g n (16 * j)) (λ (j : ℕ). line_at g m (16 * j)) (λ j. line_at_same n m g (16 * j)) (across g) q hq lines_told in
      let c = cells_told (16 * q) (line-told (16 * q) (any_one (group_at g) (16 * q) (across g) k hk has) l) in
      joined-tells (λ (j : ℕ). cell (group_at g) n (16 * q + j)) (λ (j : ℕ). cell (group_at g) m (16 * q + j)) (λ j. cell_same n m (group_at g) (16 * q + j)) (across g) k hk c

-- ---- every register has a cell

-- sixteen to a line; and MSR and PALMASK are the same register at every index
abbrev Across : Group → Type 0
Across g =
    (across (number_of g) ≡ 16)
    ⊎ ((across (number_of g) ≡ 1) × (is_listed (row_of g 0x00) ≡ true) × ((n : Named) (i : ℕ) → cell g n i ≡ cell g n 0x00))

group_across : (g : Group) → (number_of g < 9) × Across g
unfolding across row_of
group_across Cr = (omega arith, inl refl)
group_across Sr = (omega arith, inl refl)
group_across Gr = (omega arith, inl refl)
group_across Xr = (omega arith, inl refl)
group_across Fr = (omega arith, inl refl)
group_across Mr = (omega arith, inl refl)
group_across Msr = (omega arith, inr (refl, refl, λ n i. refl))
group_across Palmask = (omega arith, inr (refl, refl, λ n i. refl))
group_across Ar = (omega arith, inl refl)

module _ (n m : Named) (same : dumped n ≡ dumped m) (g : Group) (i w r : ℕ) (h : i < 256) (e : row_of g i ≡ Some (listed w r)) where
  -- the cell of a line and a place in it
  cell_at : (q k : ℕ) → q < across (number_of g) → k < across (number_of g) → is_listed (row_of g (16 * q + k)) ≡ true
      → cell g n (16 * q + k) ≡ cell g m (16 * q + k)
  cell_at q k hq hk has =
      rw (group_numbered g) at (cell-told n m same (number_of g) (group_across g).0 q k hq hk (rw (group_numbered g) has))

  cell-there : Across g → cell g n i ≡ cell g m i
  cell-there (inl sixteen) =
      let d : 16 * (i / 16) + i % 16 ≡ i = omega arith in
      rw d at (cell_at (i / 16) (i % 16) (omega arith) (omega arith) (ap is_listed (ap (row_of g) d ∙ e)))
  cell-there (inr (one, has, alone)) =
      alone n i ∙ cell_at 0 0 (omega arith) (omega arith) has ∙ sym (alone m i)

-- two states with the same text have the same byte in every listed register
pub dumped-tells : (n m : Named) → dumped n ≡ dumped m
    → (g : Group) (i w r : ℕ) → i < 256 → row_of g i ≡ Some (listed w r) → register g n i % 256 ≡ register g m i % 256
dumped-tells n m same g i w r h e =
    let c = cell-there n m same g i w r h e (group_across g).1 in
    sym (byte-read (register g n i)) ∙ ap (λ (x : List ℕ). value_of 16 0 (drop 1 x)) (rw e at c) ∙ byte-read (register g m i)
