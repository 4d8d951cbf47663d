-- The row: a place to every listed register and to no other index, two registers never at one place, and no place without a
-- register. Each is one test that is computed over a group's 256 indexes, or over the row.
use Prim.Native.Nat.{ℕ, ◌+◌, ◌*◌, ◌/◌, ◌%◌, ◌<◌, ◌≤◌, zero-le}
use native.Mathlib.Omega.{arith}
use mathlib.Core.Bool.{Bool, true, false, not, ◌&&◌, true≢false}
use mathlib.Core.Path.{◌≡◌, refl, sym, ap, ◌∙◌}
use lib.Dec.{eqb, ltb, leb}
use lib.ListN.{get_or, length}
use borrow.Author.Tests.{ltb-true, leb-true, eqb-true}
use Rattle.lists.specs.Scan.{every}
use Rattle.lists.proofs.Scan.{every-at}
use Rattle.std.proofs.lemmas.Bool.{and_parts}
use Rattle.chip_registers.specs.CrtController.{cr_lines}
use Rattle.chip_registers.specs.Sequencer.{sr_lines}
use Rattle.chip_registers.specs.Graphics.{gr_lines}
use Rattle.chip_registers.specs.Attribute.{ar_lines}
use Rattle.chip_registers.specs.Extension.{xr_lines}
use Rattle.chip_registers.specs.FlatPanel.{fr_lines}
use Rattle.chip_registers.specs.Multimedia.{mr_lines}
use Rattle.chip_registers.specs.Groups.{number_of, group_at, is_indexed, row_of, table_at}
use Rattle.chip_registers.specs.Row.{Slot, At, Nowhere, lines_of, before, row_size, slot_of, names}
use Rattle.chip_registers.proofs.TableLaws.{group_numbered}
use Rattle.chip_registers.specs.declared.Group.{Group}
use Rattle.chip_registers.specs.declared.Group.TheVariants.{Cr, Sr, Gr, Xr, Fr, Mr, Msr, Palmask, Ar}
use Rattle.std.specs.Prelude.{Option, Some, None}
use Rattle.chip_registers.specs.declared.Row.{Row}

-- the row has as many places as there are lines in the tables
pub row_full : length names ≡ row_size
unfolding names lines_of cr_lines sr_lines gr_lines xr_lines fr_lines mr_lines ar_lines
row_full = refl

-- ---- the test of one index

-- a place in the row, among the 128 from the group's first on, and named by the group and the index
abbrev placed : Group → ℕ → ℕ → Bool
placed g i k = ltb k row_size && (leb (before g) k && (ltb k (before g + 128) && eqb (get_or names k 0) (256 * number_of g + i)))

abbrev right : Group → ℕ → Slot → Option Row → Bool
right g i (At k) (Some row) = is_indexed g && placed g i k
right g i (At k) None = false
right g i Nowhere (Some row) = not (is_indexed g)
right g i Nowhere None = true

each : (g : Group) (i : ℕ) → i < 256 → right g i (slot_of g i) (row_of g i) ≡ true
unfolding every slot_of names before lines_of table_at row_of cr_lines sr_lines gr_lines xr_lines fr_lines mr_lines ar_lines
each Cr i h = every-at (λ j. right Cr j (slot_of Cr j) (row_of Cr j)) 0 256 refl i zero-le h
each Sr i h = every-at (λ j. right Sr j (slot_of Sr j) (row_of Sr j)) 0 256 refl i zero-le h
each Gr i h = every-at (λ j. right Gr j (slot_of Gr j) (row_of Gr j)) 0 256 refl i zero-le h
each Xr i h = every-at (λ j. right Xr j (slot_of Xr j) (row_of Xr j)) 0 256 refl i zero-le h
each Fr i h = every-at (λ j. right Fr j (slot_of Fr j) (row_of Fr j)) 0 256 refl i zero-le h
each Mr i h = every-at (λ j. right Mr j (slot_of Mr j) (row_of Mr j)) 0 256 refl i zero-le h
each Msr i h = refl
each Palmask i h = refl
each Ar i h = every-at (λ j. right Ar j (slot_of Ar j) (row_of Ar j)) 0 256 refl i zero-le h

-- ---- what it says

-- a register of group g and index i stands at k
pub record Stands (g : Group) (i k : ℕ) : Type 0 where
  pub listed : is_indexed g ≡ true
  pub within : k < row_size
  pub from : before g ≤ k
  pub near : k < before g + 128
  pub name : get_or names k 0 ≡ 256 * number_of g + i

pub stands : (g : Group) (i k : ℕ) → i < 256 → slot_of g i ≡ At k → Stands g i k
stands g i k h e = go (row_of g i) (let t = each g i h in rw e at t)
  where
    go : (r : Option Row) → right g i (At k) r ≡ true → Stands g i k
    go (Some row) t =
        let (l, p) = and_parts (is_indexed g) (placed g i k) t in
        let (x, q) = and_parts (ltb k row_size) _ p in
        let (y, r) = and_parts (leb (before g) k) _ q in
        let (z, n) = and_parts (ltb k (before g + 128)) _ r in
        record { listed = l; within = ltb-true _ _ x; from = leb-true _ _ y; near = ltb-true _ _ z; name = eqb-true _ _ n }
    go None t = absurd (true≢false (sym t))

-- two registers never stand at one place
pub slot-one : (g h : Group) (i j k : ℕ) → i < 256 → j < 256 → slot_of g i ≡ At k → slot_of h j ≡ At k → (g ≡ h) × (i ≡ j)
slot-one g h i j k x y p q =
    let s : 256 * number_of g + i ≡ 256 * number_of h + j = sym (stands g i k x p).name ∙ (stands h j k y q).name in
    (sym (group_numbered g) ∙ (ap group_at (omega arith) ∙ group_numbered h), omega arith)

-- an index without a place is unlisted, and nothing of it can be written
pub nowhere_unlisted : (g : Group) (i : ℕ) → i < 256 → is_indexed g ≡ true → slot_of g i ≡ Nowhere → row_of g i ≡ None
nowhere_unlisted g i h x e = go (row_of g i) (let t = each g i h in rw e at t)
  where
    go : (r : Option Row) → right g i Nowhere r ≡ true → r ≡ None
    go (Some row) t = absurd (true≢false (sym (rw x at t)))
    go None t = refl

-- an unlisted index has no place
pub unlisted_nowhere : (g : Group) (i : ℕ) → i < 256 → row_of g i ≡ None → slot_of g i ≡ Nowhere
unlisted_nowhere g i h e = go (slot_of g i) (let t = each g i h in rw e at t)
  where
    go : (s : Slot) → right g i s None ≡ true → s ≡ Nowhere
    go (At k) t = absurd (true≢false (sym t))
    go Nowhere t = refl

-- ---- no place without a register
abbrev is_at : ℕ → Slot → Bool
is_at k (At n) = eqb n k
is_at k Nowhere = false

at-is : (k : ℕ) (s : Slot) → is_at k s ≡ true → s ≡ At k
at-is k (At n) t = ap At (eqb-true n k t)
at-is k Nowhere t = absurd (true≢false (sym t))

-- the register at a place of the row
unfoldable pub group_on : ℕ → Group
group_on k = group_at (get_or names k 0 / 256)

unfoldable pub index_on : ℕ → ℕ
index_on k = get_or names k 0 % 256

pub each-slot : (k : ℕ) → k < row_size → slot_of (group_on k) (index_on k) ≡ At k
unfolding every slot_of names before lines_of table_at group_at group_on index_on cr_lines sr_lines gr_lines xr_lines fr_lines mr_lines ar_lines
each-slot k h = at-is k _ (every-at (λ j. is_at j (slot_of (group_at (get_or names j 0 / 256)) (get_or names j 0 % 256))) 0 row_size refl k zero-le h)

pub index_on_lem : (k : ℕ) → index_on k < 256
unfolding index_on
index_on_lem k = omega arith
