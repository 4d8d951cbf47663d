-- The index registers. What is kept fits, what fits is kept as it is, and so what was kept once is kept; bit for bit, the low
-- bits stay and the others are 0. No register is out of reach: an index that does not fit its group is not listed.
use Prim.Native.Nat.{ℕ, suc, ◌+◌, ◌-◌, ◌/◌, ◌%◌, ◌^◌, ◌≤◌, ◌<◌}
use native.Mathlib.Omega.{arith}
use native.Mathlib.Nat.{mod-lt, mod-eq_of_lt, div-eq_of_lt}
use mathlib.Core.Bool.{Bool, true, false, cond, ◌&&◌, false≢true}
use mathlib.Core.Path.{◌≡◌, refl, sym, ap, ◌∙◌}
use mathlib.Core.List.{List, [], ◌∷◌}
use lib.Dec.{eqb, leb, leb-suc-suc}
use lib.Pow.{pow_pos, suc_ones, field, mod-mod-pow, shr-shr}
use borrow.Author.Tests.{eqb-true, ltb-true, lt-ltb, leb-true}
use Rattle.lists.specs.Bits.{bit}
use Rattle.lists.specs.Scan.{every}
use Rattle.lists.proofs.Bits.{zero_bit}
use Rattle.std.proofs.lemmas.Bool.{and_parts}
use Rattle.chip_registers.specs.Rows.{Register, row_in, listed}
use Rattle.chip_registers.specs.CrtController.{cr_lines}
use Rattle.chip_registers.specs.Sequencer.{sr_lines}
use Rattle.chip_registers.specs.Graphics.{gr_lines}
use Rattle.chip_registers.specs.Attribute.{ar_lines}
use Rattle.chip_registers.specs.Extension.{xr_lines}
use Rattle.chip_registers.specs.FlatPanel.{fr_lines}
use Rattle.chip_registers.specs.Multimedia.{mr_lines}
use Rattle.chip_registers.specs.Groups.{group_at, is_indexed, row_of}
use Rattle.chip_registers.specs.Indexes.{index_bits, index_kept, fits}
use Rattle.chip_registers.specs.declared.Group.{Group}
use Rattle.chip_registers.specs.declared.Group.TheVariants.{Cr, Sr, Gr, Xr, Fr, Mr, Msr, Palmask, Ar}
use Rattle.chip_registers.proofs.TableLaws.{every_group}
use Rattle.std.specs.Prelude.{Some, None}

-- ---- what is kept, and what fits
pub kept-fits : (g : Group) (v : ℕ) → fits g (index_kept g v) ≡ true
unfolding index_kept fits
kept-fits g v = lt-ltb _ _ (mod-lt v (pow_pos (index_bits g)))

pub fits_kept : (g : Group) (i : ℕ) → fits g i ≡ true → index_kept g i ≡ i
unfolding index_kept fits
fits_kept g i h = mod-eq_of_lt (ltb-true _ _ h)

pub kept_again : (g : Group) (v : ℕ) → index_kept g (index_kept g v) ≡ index_kept g v
kept_again g v = fits_kept g (index_kept g v) (kept-fits g v)

-- what fits is at most the mask of the bits that are kept
pub mask_fits : (g : Group) (i : ℕ) → leb i (2 ^ index_bits g - 1) ≡ fits g i
unfolding fits
mask_fits g i = sym (leb-suc-suc i (2 ^ index_bits g - 1)) ∙ ap (leb (suc i)) (suc_ones (index_bits g))

-- an index is a byte at most
pub kept_byte : (g : Group) (v : ℕ) → index_kept g v < 0x100
unfolding index_kept group_at every
kept_byte g v =
    let few : 2 ^ index_bits g ≤ 0x100 = leb-true (2 ^ index_bits g) 0x100 (every_group (λ h. leb (2 ^ index_bits h) 0x100) refl g) in
    omega (arith, mod-lt v (pow_pos (index_bits g)))

-- ---- "keeps the bits its chapter shows, and the others read 0"
pub kept_low : (g : Group) (k v : ℕ) → k < index_bits g → bit k (index_kept g v) ≡ bit k v
unfolding index_kept
kept_low g k v h =
    let j : ℕ = index_bits g - (k + 1) in
    let e : index_bits g ≡ (j + 1) + k = omega arith in
    ap (λ (n : ℕ). v % 2 ^ n / 2 ^ k % 2) e ∙ ap (λ (n : ℕ). n % 2) (field v (j + 1) k) ∙ mod-mod-pow (v / 2 ^ k) j 1

pub kept_high : (g : Group) (k v : ℕ) → index_bits g ≤ k → bit k (index_kept g v) ≡ 0
unfolding index_kept
kept_high g k v h =
    let n : ℕ = index_bits g in
    let e : k ≡ n + (k - n) = omega arith in
    let none : v % 2 ^ n / 2 ^ n ≡ 0 = div-eq_of_lt (mod-lt v (pow_pos n)) in
    ap (λ (m : ℕ). v % 2 ^ n / 2 ^ m % 2) e
    ∙ ap (λ (m : ℕ). m % 2) (sym (shr-shr (v % 2 ^ n) n (k - n)))
    ∙ ap (λ (m : ℕ). m / 2 ^ (k - n) % 2) none
    ∙ zero_bit (k - n)

-- the bits that each chapter shows, as what is kept of FFh: CRX 7-0 (chapter 9), SRX 2-0 (10), GRX 3-0 (11), XRX 7-0 (14), ARX
-- 4-0 (12), bit 5 apart; FR and MR have no page, and keep document 01's eight; MSR and PALMASK have no index
pub kept_of_ff : (index_kept Cr 0xFF ≡ 0xFF) × (index_kept Sr 0xFF ≡ 0x07) × (index_kept Gr 0xFF ≡ 0x0F) × (index_kept Xr 0xFF ≡ 0xFF)
    × (index_kept Fr 0xFF ≡ 0xFF) × (index_kept Mr 0xFF ≡ 0xFF) × (index_kept Ar 0xFF ≡ 0x1F) × (index_kept Msr 0xFF ≡ 0x00) × (index_kept Palmask 0xFF ≡ 0x00)
unfolding index_kept
kept_of_ff = (refl, refl, refl, refl, refl, refl, refl, refl, refl)

-- ---- no register is out of reach
abbrev within : Group → List Register → Bool
within g [] = true
within g (r ∷ rs) = fits g r.index && within g rs

misfit_in : (g : Group) (rs : List Register) (i : ℕ) → within g rs ≡ true → fits g i ≡ false → row_in rs i ≡ None
misfit_in g [] i t h = refl
misfit_in g (r ∷ rs) i t h =
    let (here, others) = and_parts (fits g r.index) (within g rs) t in
    go (eqb i r.index) refl here (misfit_in g rs i others h)
  where
    go : (z : Bool) → eqb i r.index ≡ z → fits g r.index ≡ true → row_in rs i ≡ None
        → cond z (Some (listed r.writable r.reset)) (row_in rs i) ≡ None
    go true e here others = absurd (false≢true (sym h ∙ ap (fits g) (eqb-true _ _ e) ∙ here))
    go false e here others = others

pub misfit_unlisted : (g : Group) (i : ℕ) → is_indexed g ≡ true → fits g i ≡ false → row_of g i ≡ None
unfolding fits row_of cr_lines sr_lines gr_lines xr_lines fr_lines mr_lines ar_lines
misfit_unlisted Cr i x h = misfit_in Cr cr_lines i refl h
misfit_unlisted Sr i x h = misfit_in Sr sr_lines i refl h
misfit_unlisted Gr i x h = misfit_in Gr gr_lines i refl h
misfit_unlisted Xr i x h = misfit_in Xr xr_lines i refl h
misfit_unlisted Fr i x h = misfit_in Fr fr_lines i refl h
misfit_unlisted Mr i x h = misfit_in Mr mr_lines i refl h
misfit_unlisted Msr i x h = absurd (false≢true x)
misfit_unlisted Palmask i x h = absurd (false≢true x)
misfit_unlisted Ar i x h = misfit_in Ar ar_lines i refl h
