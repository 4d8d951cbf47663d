-- The view misses nothing: bytes of the right length with one view and the same spare bits are the same bytes. So what a call
-- leaves is decided, byte for byte, by what its contract says of the chip.
use Rattle.std.proofs.Common.{◌≡◌, ℕ, zero, suc, ◌+◌, ◌-◌, ◌*◌, ◌/◌, ◌%◌, ◌<◌, ◌≤◌, Bool, true, false, eqb, ltb, List, length, get_or, sym, refl, ap, ◌∙◌, arith, ext_get_or, ltb-false, ltb-true, eqb-true}
use borrow.Author.Tests.{eqb-false}
use Rattle.lists.proofs.Tab.{tab-at}
use Rattle.chip_registers.specs.Row.{row_size}
use Rattle.chip.specs.Palette.{rgb}
use Rattle.chip.specs.declared.Chip.{Chip as Kept}
use Rattle.chip.specs.State.{Chip}
use Rattle.chip.specs.declared.Rgb.{Rgb}
use Rattle.chip.proofs.ViewLaws.{view_decides}
use Rattle.lent_chip.specs.Layout.{FLAGS, PALETTE, ROW, whole, colour_in, laid, view, spare, Holds}
use Rattle.lent_chip.specs.Accesses.{Left}
use Rattle.lent_chip.proofs.Flags.{same_bit, same_flags}
use Rattle.lent_chip.proofs.Stores.{row-length, row_at}

not_thirteen : (q : ℕ) → (suc (suc (suc (suc (suc (suc (suc (suc (suc (suc (suc (suc (suc q))))))))))))) < 13 → ⊥
not_thirteen q h = omega arith

not_three : (d : ℕ) → suc (suc (suc d)) < 3 → ⊥
not_three d h = omega arith

-- what is kept is the same, so each byte is, the flags apart
module _ (a b : List ℕ) (e : laid a ≡ laid b) where
  row : (k : ℕ) → k < row_size → get_or a (ROW + k) 0 ≡ get_or b (ROW + k) 0
  row k h = sym (row_at a k h) ∙ (ap (λ (f : Kept). get_or f.row k 0) e ∙ row_at b k h)

  entry : (k : ℕ) → k < 256 → colour_in a k ≡ colour_in b k
  unfolding laid
  entry k h =
      sym (tab-at (colour_in a) 256 k (rgb 0 0 0) h)
      ∙ (ap (λ (f : Kept). get_or f.palette k (rgb 0 0 0)) e ∙ tab-at (colour_in b) 256 k (rgb 0 0 0) h)

  colour : (k d : ℕ) → k < 256 → d < 3 → get_or a (PALETTE + (3 * k + d)) 0 ≡ get_or b (PALETTE + (3 * k + d)) 0
  colour k zero h w = let x : PALETTE + (3 * k + 0) ≡ PALETTE + 3 * k = omega arith in rw x (ap (λ (c : Rgb). c.red) (entry k h))
  colour k (suc zero) h w = ap (λ (c : Rgb). c.green) (entry k h)
  colour k (suc (suc zero)) h w = ap (λ (c : Rgb). c.blue) (entry k h)
  colour k (suc (suc (suc d))) h w = absurd (not_three d w)

  single : (k : ℕ) → k < FLAGS → get_or a k 0 ≡ get_or b k 0
  unfolding laid
  single zero h = ap (λ (f : Kept). f.msr) e
  single (suc zero) h = ap (λ (f : Kept). f.palmask) e
  single (suc (suc zero)) h = ap (λ (f : Kept). f.indexes.cr) e
  single (suc (suc (suc zero))) h = ap (λ (f : Kept). f.indexes.sr) e
  single (suc (suc (suc (suc zero)))) h = ap (λ (f : Kept). f.indexes.gr) e
  single (suc (suc (suc (suc (suc zero))))) h = ap (λ (f : Kept). f.indexes.xr) e
  single (suc (suc (suc (suc (suc (suc zero)))))) h = ap (λ (f : Kept). f.indexes.fr) e
  single (suc (suc (suc (suc (suc (suc (suc zero))))))) h = ap (λ (f : Kept). f.indexes.mr) e
  single (suc (suc (suc (suc (suc (suc (suc (suc zero)))))))) h = ap (λ (f : Kept). f.indexes.ar) e
  single (suc (suc (suc (suc (suc (suc (suc (suc (suc zero))))))))) h = ap (λ (f : Kept). f.loading.index) e
  single (suc (suc (suc (suc (suc (suc (suc (suc (suc (suc zero)))))))))) h = ap (λ (f : Kept). f.loading.position) e
  single (suc (suc (suc (suc (suc (suc (suc (suc (suc (suc (suc zero))))))))))) h = ap (λ (f : Kept). f.loading.red) e
  single (suc (suc (suc (suc (suc (suc (suc (suc (suc (suc (suc (suc zero)))))))))))) h = ap (λ (f : Kept). f.loading.green) e
  single (suc (suc (suc (suc (suc (suc (suc (suc (suc (suc (suc (suc (suc q))))))))))))) h = absurd (not_thirteen q h)

  -- three bits of the flags are the chip's, the others are spare
  flags : spare a ≡ spare b → get_or a FLAGS 0 ≡ get_or b FLAGS 0
  unfolding laid spare
  flags s =
      same_flags (get_or a FLAGS 0) (get_or b FLAGS 0)
      (same_bit (get_or a FLAGS 0) (get_or b FLAGS 0) (ap (λ (f : Kept). f.loading.reading) e))
      (same_bit (get_or a FLAGS 0 / 2) (get_or b FLAGS 0 / 2) (ap (λ (f : Kept). f.indexes.turn) e))
      (same_bit (get_or a FLAGS 0 / 4) (get_or b FLAGS 0 / 4) (ap (λ (f : Kept). f.picture) e))
      s

  -- a byte below the palette, in it, or in the row
  at : spare a ≡ spare b → (k : ℕ) → k < whole → get_or a k 0 ≡ get_or b k 0
  at s k h = go (eqb k FLAGS) (ltb k PALETTE) (ltb k ROW) refl refl refl where
    go : (x y z : Bool) → eqb k FLAGS ≡ x → ltb k PALETTE ≡ y → ltb k ROW ≡ z → get_or a k 0 ≡ get_or b k 0
    go true y z o p q = rw (eqb-true k FLAGS o) (flags s)
    go false true z o p q = let d : k ≡ FLAGS → ⊥ = eqb-false k FLAGS o in single k (omega (arith, ltb-true k PALETTE p))
    go false false true o p q =
        let w : k < ROW = ltb-true k ROW q in
        let v : PALETTE ≤ k = ltb-false k PALETTE p in
        let d : PALETTE + (3 * ((k - PALETTE) / 3) + (k - PALETTE) % 3) ≡ k = omega arith in
        let t : get_or a (PALETTE + (3 * ((k - PALETTE) / 3) + (k - PALETTE) % 3)) 0 ≡ get_or b (PALETTE + (3 * ((k - PALETTE) / 3) + (k - PALETTE) % 3)) 0 =
        colour ((k - PALETTE) / 3) ((k - PALETTE) % 3) (omega arith) (omega arith) in
        rw d at t
    go false false false o p q =
        let v : ROW ≤ k = ltb-false k ROW q in
        let d : ROW + (k - ROW) ≡ k = omega arith in
        let t : get_or a (ROW + (k - ROW)) 0 ≡ get_or b (ROW + (k - ROW)) 0 = row (k - ROW) (omega arith) in
        rw d at t

-- what is shown decides what is kept: crate `chip`'s law
same-laid : (a b : List ℕ) → view a ≡ view b → laid a ≡ laid b
unfolding view
same-laid a b e = view_decides (laid a) (laid b) (row-length a) (row-length b) e

same_bytes : (a b : List ℕ) → view a ≡ view b → length a ≡ whole → length b ≡ whole → spare a ≡ spare b → a ≡ b
same_bytes a b e n m s = ext_get_or 0 a b (rw (n, m)) (λ k h. at a b (same-laid a b e) s k (omega arith))

-- the bytes that hold a chip, with given spare bits, are one list
pub holds_decides : (l m : List ℕ) (c : Chip) (bits : ℕ) → Holds l c bits → Holds m c bits → l ≡ m
holds_decides l m c bits h k = same_bytes l m (h.chip ∙ sym k.chip) h.size k.size (h.spare ∙ sym k.spare)

-- what a call leaves is one list
pub left_decides : (l : List ℕ) (c : Chip) (bits : ℕ) (m n : List ℕ) → Left l c bits m → Left l c bits n → m ≡ n
left_decides l c bits m n h k = go (eqb (length l) whole) refl
  where
    go : (z : Bool) → eqb (length l) whole ≡ z → m ≡ n
    go true e = let w = eqb-true (length l) whole e in holds_decides m n c bits (h.held w) (k.held w)
    go false e = let w = eqb-false (length l) whole e in h.kept w ∙ sym (k.kept w)
