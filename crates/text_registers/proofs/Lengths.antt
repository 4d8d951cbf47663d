-- How long the text is: a line has at most 56 bytes, a paragraph at most 16 of them and the empty line, and nine paragraphs stay
-- below the 8,192 bytes of room that are asked for. What registers hold does not change it: every text has 1,723 bytes.
use Prim.Native.Nat.{ℕ, zero, suc, ◌+◌, ◌*◌, ◌≤◌}
use native.Mathlib.Omega.{arith}
use mathlib.Core.Bool.{Bool, true, false, cond, ◌||◌}
use mathlib.Core.Path.{◌≡◌, refl, sym, ◌∙◌}
use mathlib.Core.List.{List, []}
use lib.Dec.{eqb}
use lib.ListN.{length, length-append}
use Rattle.chip_registers.specs.Groups.{group_at, row_of}
use Rattle.chip_registers.specs.CrtController.{cr_lines}
use Rattle.chip_registers.specs.Sequencer.{sr_lines}
use Rattle.chip_registers.specs.Graphics.{gr_lines}
use Rattle.chip_registers.specs.Attribute.{ar_lines}
use Rattle.chip_registers.specs.Extension.{xr_lines}
use Rattle.chip_registers.specs.FlatPanel.{fr_lines}
use Rattle.chip_registers.specs.Multimedia.{mr_lines}
use Rattle.chip_registers.specs.declared.Group.{Group}
use Rattle.chip.specs.State.{Named}
use Rattle.chip.specs.Names.{register}
use Rattle.text_steps.specs.Written.{letter, name_text}
use Rattle.text_steps.proofs.Lengths.{name_most}
use Rattle.text_registers.specs.Line.{shown, cell, joined, cells_to, across, line}
use Rattle.text_registers.specs.Text.{any_listed, line_at, lines_to, paragraph, paragraphs_to, dumped}
use Rattle.std.specs.Prelude.{Option, Some, None}
use Rattle.chip_registers.specs.declared.Row.{Row}

-- ---- pieces that are so long, or no longer
module _ (piece : ℕ → List ℕ) (m : ℕ) where
  pub joined_length : ((j : ℕ) → length (piece j) ≡ m) → (k : ℕ) → length (joined piece k) ≡ k * m
  unfolding joined
  joined_length each zero = omega arith
  joined_length each (suc k) =
      let h : length (joined piece k) ≡ k * m = joined_length each k in
      let one : length (piece k) ≡ m = each k in
      simp length-append (omega arith)

  pub joined_most : ((j : ℕ) → length (piece j) ≤ m) → (k : ℕ) → length (joined piece k) ≤ k * m
  unfolding joined
  joined_most each zero = omega arith
  joined_most each (suc k) =
      let h : length (joined piece k) ≤ k * m = joined_most each k in
      let one : length (piece k) ≤ m = each k in
      simp length-append (omega arith)

-- ---- cells
shown-length : (r : Option Row) (byte : ℕ) → length (shown r byte) ≡ 2
shown-length (Some row) byte = refl
shown-length None byte = refl

module _ (g : Group) (n : Named) where
  pub cell-length : (i : ℕ) → length (cell g n i) ≡ 3
  cell-length i = rw (shown-length (row_of g i) (register g n i))

  pub cell_most : (i : ℕ) → length (cell g n i) ≤ 3
  cell_most i = omega (arith, cell-length i)

  pub cells_length : (i k : ℕ) → length (cells_to g n i k) ≡ k * 3
  cells_length i k = joined_length (λ (j : ℕ). cell g n (i + j)) 3 (λ j. cell-length (i + j)) k

-- ---- lines
pub across_most : (g : ℕ) → across g ≤ 16
unfolding across
across_most g = go (eqb g 6 || eqb g 7)
  where
    go : (b : Bool) → cond b 1 16 ≤ 16
    go true = omega arith
    go false = omega arith

module _ (g : ℕ) (n : Named) where
  pub line-length : (i : ℕ) → length (line g n i) ≡ length (name_text g i) + across g * 3 + 1
  unfolding line
  line-length i =
      let c : length (cells_to (group_at g) n i (across g)) ≡ across g * 3 = cells_length (group_at g) n i (across g) in
      simp length-append (omega arith)

  pub line_at_most : (i : ℕ) → length (line_at g n i) ≤ 56
  unfolding line_at
  line_at_most i = go (any_listed (group_at g) i (across g))
    where
      go : (b : Bool) → length (cond b (line g n i) []) ≤ 56
      go true = omega (arith, line-length i, name_most g i, across_most g)
      go false = omega arith

  pub lines_most : (k : ℕ) → length (lines_to g n k) ≤ k * 56
  lines_most k = joined_most (λ (j : ℕ). line_at g n (16 * j)) 56 (λ j. line_at_most (16 * j)) k

  -- ---- paragraphs
  pub paragraph_most : length (paragraph g n) ≤ 897
  unfolding paragraph
  paragraph_most =
      let h : length (lines_to g n (across g)) ≤ across g * 56 = lines_most (across g) in
      let sixteen : across g ≤ 16 = across_most g in
      simp length-append (omega arith)

-- the room that is asked for is enough
pub dumped_most : (n : Named) → length (dumped n) ≤ 8192
dumped_most n =
    let h : length (paragraphs_to n 9) ≤ 9 * 897 = joined_most (λ (g : ℕ). paragraph g n) 897 (λ g. paragraph_most g n) 9 in
    omega arith

-- ---- as long in one state as in the other
module _ (p q : ℕ → List ℕ) (each : (j : ℕ) → length (p j) ≡ length (q j)) where
  pub joined_same : (k : ℕ) → length (joined p k) ≡ length (joined q k)
  unfolding joined
  joined_same zero = refl
  joined_same (suc k) =
      let h : length (joined p k) ≡ length (joined q k) = joined_same k in
      let one : length (p k) ≡ length (q k) = each k in
      simp length-append (omega arith)

module _ (n m : Named) where
  pub cell_same : (g : Group) (i : ℕ) → length (cell g n i) ≡ length (cell g m i)
  cell_same g i = cell-length g n i ∙ sym (cell-length g m i)

  pub line_at_same : (g i : ℕ) → length (line_at g n i) ≡ length (line_at g m i)
  unfolding line_at
  line_at_same g i = go (any_listed (group_at g) i (across g))
    where
      go : (b : Bool) → length (cond b (line g n i) []) ≡ length (cond b (line g m i) [])
      go true = line-length g n i ∙ sym (line-length g m i)
      go false = refl

  pub lines_same : (g k : ℕ) → length (lines_to g n k) ≡ length (lines_to g m k)
  lines_same g k = joined_same (λ (j : ℕ). line_at g n (16 * j)) (λ (j : ℕ). line_at g m (16 * j)) (λ j. line_at_same g (16 * j)) k

  pub paragraph-same : (g : ℕ) → length (paragraph g n) ≡ length (paragraph g m)
  unfolding paragraph
  paragraph-same g =
      let h : length (lines_to g n (across g)) ≡ length (lines_to g m (across g)) = lines_same g (across g) in
      simp length-append (omega arith)

  pub dumped-same : length (dumped n) ≡ length (dumped m)
  dumped-same = joined_same (λ (g : ℕ). paragraph g n) (λ (g : ℕ). paragraph g m) paragraph-same 9

-- so it is as long as it is with 00h everywhere
blank : Named
blank = record { cr = []; sr = []; gr = []; xr = []; fr = []; mr = []; ar = []; msr = 0; palmask = 0; picture = false; palette = [] }

blank-length : length (dumped blank) ≡ 1723
unfolding blank joined paragraph line_at any_listed line across name_text letter group_at row_of cr_lines sr_lines gr_lines xr_lines fr_lines mr_lines ar_lines
blank-length = refl

pub dumped-length : (n : Named) → length (dumped n) ≡ 1723
dumped-length n = dumped-same n blank ∙ blank-length
