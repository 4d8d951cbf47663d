-- The tables as lists: how many registers each chapter lists, that each stands once and in order, and that every number is
-- a byte. What is said of a table is one test that is computed over it.
use Prim.Native.Nat.{ℕ, ◌<◌}
use native.Mathlib.Omega.{arith}
use mathlib.Core.Bool.{Bool, true, false, cond, ◌&&◌}
use mathlib.Core.Path.{◌≡◌, refl, sym, ap, ◌∙◌}
use mathlib.Core.List.{List, [], ◌∷◌}
use lib.Dec.{eqb, ltb}
use lib.ListN.{length}
use borrow.Author.Tests.{eqb-true, ltb-true}
use Rattle.chip_registers.specs.Rows.{Register, row_in, listed}
use Rattle.chip_registers.specs.CrtController.{cr_lines}
use Rattle.chip_registers.specs.Sequencer.{sr_lines}
use Rattle.chip_registers.specs.Graphics.{gr_lines}
use Rattle.chip_registers.specs.Attribute.{ar_lines}
use Rattle.chip_registers.specs.Extension.{xr_lines}
use Rattle.chip_registers.specs.FlatPanel.{fr_lines}
use Rattle.chip_registers.specs.Multimedia.{mr_lines}
use Rattle.chip_registers.specs.Groups.{number_of, group_at, is, row_of, writable_in, reset_in}
use Rattle.chip_registers.specs.declared.Group.{Group}
use Rattle.chip_registers.specs.declared.Group.TheVariants.{Cr, Sr, Gr, Xr, Fr, Mr, Msr, Palmask, Ar}
use Rattle.lists.specs.Scan.{every}
use Rattle.lists.proofs.Scan.{every-at}
use Rattle.std.proofs.lemmas.Bool.{and_parts}
use Rattle.std.specs.Prelude.{Option, Some}
use Rattle.chip_registers.specs.declared.Row.{Row}

-- from a table's second row on, each index is above the one before it
abbrev rising : ℕ → List Register → Bool
rising before [] = true
rising before (r ∷ rs) = ltb before r.index && rising r.index rs

-- the first index is 00h and the others rise
abbrev ordered : List Register → Bool
ordered [] = false
ordered (r ∷ rs) = eqb r.index 0x00 && rising 0x00 rs

abbrev byte : ℕ → Bool
byte x = ltb x 0x100

abbrev bytes : List Register → Bool
bytes [] = true
bytes (r ∷ rs) = byte r.index && (byte r.writable && (byte r.reset && bytes rs))

pub record Table (rs : List Register) (count : ℕ) : Type 0 where
  pub registers : length rs ≡ count
  pub order : ordered rs ≡ true
  pub numbers : bytes rs ≡ true

pub cr_table : Table cr_lines 44
unfolding cr_lines
cr_table = record { registers = refl; order = refl; numbers = refl }

pub sr_table : Table sr_lines 6
unfolding sr_lines
sr_table = record { registers = refl; order = refl; numbers = refl }

pub gr_table : Table gr_lines 9
unfolding gr_lines
gr_table = record { registers = refl; order = refl; numbers = refl }

pub ar_table : Table ar_lines 21
unfolding ar_lines
ar_table = record { registers = refl; order = refl; numbers = refl }

pub xr_table : Table xr_lines 88
unfolding xr_lines
xr_table = record { registers = refl; order = refl; numbers = refl }

pub fr_table : Table fr_lines 52
unfolding fr_lines
fr_table = record { registers = refl; order = refl; numbers = refl }

pub mr_table : Table mr_lines 55
unfolding mr_lines
mr_table = record { registers = refl; order = refl; numbers = refl }

-- document 01's numbers of the groups, and document 02's 8 for AR
pub groups_documented : (group_at 0 ≡ Cr) × (group_at 1 ≡ Sr) × (group_at 2 ≡ Gr) × (group_at 3 ≡ Xr) × (group_at 4 ≡ Fr) × (group_at 5 ≡ Mr)
    × (group_at 6 ≡ Msr) × (group_at 7 ≡ Palmask) × (group_at 8 ≡ Ar)
unfolding group_at
groups_documented = (refl, refl, refl, refl, refl, refl, refl, refl, refl)

-- the group of a group's number is the group
pub group_numbered : (g : Group) → group_at (number_of g) ≡ g
unfolding group_at
group_numbered Cr = refl
group_numbered Sr = refl
group_numbered Gr = refl
group_numbered Xr = refl
group_numbered Fr = refl
group_numbered Mr = refl
group_numbered Msr = refl
group_numbered Palmask = refl
group_numbered Ar = refl

pub number_few : (g : Group) → number_of g < 9
number_few Cr = omega arith
number_few Sr = omega arith
number_few Gr = omega arith
number_few Xr = omega arith
number_few Fr = omega arith
number_few Mr = omega arith
number_few Msr = omega arith
number_few Palmask = omega arith
number_few Ar = omega arith

-- .. and a group's number is the one that it is named by
pub number_grouped : (k : ℕ) → k < 9 → number_of (group_at k) ≡ k
unfolding group_at every
number_grouped k h = eqb-true _ _ (every-at (λ j. eqb (number_of (group_at j)) j) 0 9 refl k (omega arith) (omega arith))

-- what is tested of the group of each number holds of every group
pub every_group : (t : Group → Bool) → every (λ k. t (group_at k)) 0 9 ≡ true → (g : Group) → t g ≡ true
every_group t e g =
    ap t (sym (group_numbered g)) ∙ every-at (λ k. t (group_at k)) 0 9 e (number_of g) (omega arith) (omega (arith, number_few g))

pub is_same : (g h : Group) → is g h ≡ true → g ≡ h
is_same g h e = sym (group_numbered g) ∙ ap group_at (eqb-true _ _ e) ∙ group_numbered h

-- the writable bits and the reset byte of a row are bytes
abbrev pub Bytes : Option Row → Type 0
Bytes r = (writable_in r < 0x100) × (reset_in r < 0x100)

row-bytes : (rs : List Register) (i : ℕ) → bytes rs ≡ true → Bytes (row_in rs i)
row-bytes [] i t = (omega arith, omega arith)
row-bytes (r ∷ rs) i t =
    let (_, u) = and_parts (byte r.index) (byte r.writable && (byte r.reset && bytes rs)) t in
    let (w, v) = and_parts (byte r.writable) (byte r.reset && bytes rs) u in
    let (b, others) = and_parts (byte r.reset) (bytes rs) v in
    go (eqb i r.index) (ltb-true _ _ w) (ltb-true _ _ b) (row-bytes rs i others)
  where
    go : (z : Bool) → r.writable < 0x100 → r.reset < 0x100 → Bytes (row_in rs i) → Bytes (cond z (Some (listed r.writable r.reset)) (row_in rs i))
    go true w b h = (w, b)
    go false w b h = h

pub byte-rows : (g : Group) (i : ℕ) → Bytes (row_of g i)
unfolding row_of
byte-rows Cr i = row-bytes cr_lines i cr_table.numbers
byte-rows Sr i = row-bytes sr_lines i sr_table.numbers
byte-rows Gr i = row-bytes gr_lines i gr_table.numbers
byte-rows Xr i = row-bytes xr_lines i xr_table.numbers
byte-rows Fr i = row-bytes fr_lines i fr_table.numbers
byte-rows Mr i = row-bytes mr_lines i mr_table.numbers
byte-rows Msr i = (omega arith, omega arith)
byte-rows Palmask i = (omega arith, omega arith)
byte-rows Ar i = row-bytes ar_lines i ar_table.numbers
