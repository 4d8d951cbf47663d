-- Bytes that are 0 but for the registers' reset bytes where they stand keep what crate `chip` keeps of the state that `reset`
-- gives, and so hold that state: it is shown by what is kept of it (KeptLaws of crate `chip`).
use Prim.Native.Nat.{ℕ, zero, suc, ◌+◌, ◌*◌, ◌-◌, ◌/◌, ◌%◌, ◌<◌}
use mathlib.Core.Path.{◌≡◌, refl, ap, ◌∙◌, sym}
use mathlib.Core.Bool.{Bool, true, false, cond}
use mathlib.Core.List.{List, ◌∷◌}
use lib.Dec.{eqb, ltb}
use lib.ListN.{get_or, length, length-set, replicate, set}
use Rattle.std.proofs.lemmas.List.{get_or-replicate, length-replicate}
use lib.Seq.{get_or-set_same, get_or-set_other}
use native.Mathlib.Omega.{arith}
use borrow.Author.Tests.{eqb-true, eqb-false, ne_eqb, le-ltb}
use Rattle.lists.specs.Tab.{tab}
use Rattle.lists.proofs.Tab.{tab-same}
use Rattle.chip_registers.specs.Groups.{number_of, group_at, row_of}
use Rattle.chip_registers.specs.Row.{row_size}
use Rattle.chip_registers.specs.declared.Group.{Group}
use Rattle.chip_registers.specs.declared.Group.TheVariants.{Msr, Palmask}
use Rattle.chip_registers.proofs.TableLaws.{group_numbered, number_few}
use Rattle.chip_registers.proofs.RowLaws.{slot-one, group_on, index_on, index_on_lem, each-slot}
use Rattle.chip_masks.specs.Table.{standing_of}
use Rattle.chip.specs.State.{named}
use Rattle.chip.specs.Names.{register}
use Rattle.chip.specs.Palette.{rgb}
use Rattle.chip.specs.Reset.{reset_byte, reset}
use Rattle.chip.specs.View.{view as shown_by}
use Rattle.chip.proofs.ResetLaws.{register-reset}
use Rattle.chip.proofs.KeptLaws.{kept, reset_rowable, kept_shows}
use Rattle.lent_chip.specs.Layout.{MSR, PALMASK, CR_INDEX, SR_INDEX, GR_INDEX, XR_INDEX, FR_INDEX, MR_INDEX, AR_INDEX, INDEX, POSITION, RED, GREEN, FLAGS, PALETTE, ROW, whole, colour_in, laid, view, spare, base_of, place_of, Holds}
use Rattle.lent_chip.proofs.Stores.{Where, InRow, IsMsr, IsPalmask, Unlisted, where_is, placed}
use Rattle.lent_reset.specs.Fresh.{Cleared, stored}

-- a list of one thing
tab-one : {A : Type 0} (x : A) (n : ℕ) → tab (λ (k : ℕ). x) n ≡ replicate n x
unfolding tab
tab-one x zero = refl
tab-one x (suc n) = ap (◌∷◌ x) (tab-one x n)

-- bytes that are all filled with 0
pub filled : (l : List ℕ) {m : List ℕ} → length l ≡ whole → m ≡ replicate (length l) 0 → Cleared m
filled l n e = rw e (record { size = length-replicate {A = ℕ} (length l) 0 ∙ n; zeros = λ k h. get_or-replicate {A = ℕ} (length l) k 0 0 (omega (arith, n)) })

-- ---- the byte of a place: of the register that stands there, and 0 where none does
abbrev fresh_byte : ℕ → ℕ → ℕ → ℕ
fresh_byte first second p =
    cond (eqb p MSR) (reset_byte first second Msr 0x00)
    (cond (eqb p PALMASK) (reset_byte first second Palmask 0x00)
    (cond (ltb p ROW) 0 (reset_byte first second (group_on (p - ROW)) (index_on (p - ROW)))))

module _ (first second : ℕ) where
  fresh-row : (k : ℕ) → fresh_byte first second (ROW + k) ≡ reset_byte first second (group_on k) (index_on k)
  fresh-row k =
      let back : ROW + k - ROW ≡ k = omega arith in
      rw (ne_eqb (ROW + k) MSR (λ e. omega arith), ne_eqb (ROW + k) PALMASK (λ e. omega arith), le-ltb (ROW + k) ROW (omega arith), back)

  -- a register that stands has the byte of its place
  stands-fresh : (g : Group) (i : ℕ) → i < 256 → standing_of g i / 128 % 2 ≡ 1 → reset_byte first second g i ≡ fresh_byte first second (place_of g i)
  unfolding place_of base_of standing_of reset_byte row_of
  stands-fresh g i h t = go (where_is g i h)
    where
      go : Where g i → reset_byte first second g i ≡ fresh_byte first second (place_of g i)
      go (InRow k e w p q) =
          let (u, v) = slot-one g (group_on k) i (index_on k) k h (index_on_lem k) e (each-slot k w) in
          ap (λ (d : Group). reset_byte first second d i) u ∙ (ap (reset_byte first second (group_on k)) v ∙ (sym (fresh-row k) ∙ ap (fresh_byte first second) (sym p)))
      go (IsMsr e) = rw e
      go (IsPalmask e) = rw e
      go (Unlisted x e z) = absurd (let y : 0 / 128 % 2 ≡ 1 = rw z at t in omega arith)

  -- ---- names by number: 256 times the number of the group, plus the index
  abbrev Stood : ℕ → Type 0
  Stood j = standing_of (group_at (j / 256)) (j % 256) / 128 % 2 ≡ 1

  abbrev at : ℕ → ℕ
  at j = place_of (group_at (j / 256)) (j % 256)

  -- the first n names are done
  pub record Done (n : ℕ) (l : List ℕ) : Type 0 where
    pub size : length l ≡ whole
    pub zeros : (k : ℕ) → k < ROW → (k ≡ MSR → ⊥) → (k ≡ PALMASK → ⊥) → get_or l k 0 ≡ 0
    pub each : (j : ℕ) → j < n → Stood j → get_or l (at j) 0 ≡ fresh_byte first second (at j)

  pub none_done : (l : List ℕ) → Cleared l → Done 0 l
  none_done l c = record { size = c.size; zeros = λ k h x y. c.zeros k (omega arith); each = λ j h t. absurd (omega arith) }

  -- a register that stands is at MSR, at PALMASK or in the row
  elsewhere : (g : Group) (i k : ℕ) → i < 256 → standing_of g i / 128 % 2 ≡ 1 → k < ROW → (k ≡ MSR → ⊥) → (k ≡ PALMASK → ⊥) → k ≡ place_of g i → ⊥
  unfolding place_of base_of standing_of
  elsewhere g i k h t w x y p = go (where_is g i h)
    where
      go : Where g i → ⊥
      go (InRow m e b q s) = let z : k ≡ ROW + m = p ∙ q in omega arith
      go (IsMsr e) = x (let z = rw e at p in z)
      go (IsPalmask e) = y (let z = rw e at p in z)
      go (Unlisted u e z) = let s : 0 / 128 % 2 ≡ 1 = rw z at t in omega arith

  below : (g : Group) (i : ℕ) → i < 256 → standing_of g i / 128 % 2 ≡ 1 → place_of g i < whole
  unfolding place_of base_of standing_of
  below g i h t = go (where_is g i h)
    where
      go : Where g i → place_of g i < whole
      go (InRow k e w p q) = rw p (omega arith)
      go (IsMsr e) = rw e (omega arith)
      go (IsPalmask e) = rw e (omega arith)
      go (Unlisted x e z) = absurd (let s : 0 / 128 % 2 ≡ 1 = rw z at t in omega arith)

  next_done : (n : ℕ) (l : List ℕ) → Done n l → n < 2304
      → Done (n + 1) (stored l (group_at (n / 256)) (n % 256) (reset_byte first second (group_at (n / 256)) (n % 256)))
  next_done n l f h = go (eqb (standing_of (group_at (n / 256)) (n % 256) / 128 % 2) 1) refl
    where
      earlier : (j : ℕ) → j < n + 1 → (j ≡ n → ⊥) → j < n
      earlier j w d = omega arith

      one : Stood n → reset_byte first second (group_at (n / 256)) (n % 256) ≡ fresh_byte first second (at n) → (j : ℕ) → j < n + 1 → Stood j
          → (z : Bool) → eqb (at j) (at n) ≡ z → get_or (set l (at n) (reset_byte first second (group_at (n / 256)) (n % 256))) (at j) 0 ≡ fresh_byte first second (at j)
      one t v j w s true x =
          let same : at j ≡ at n = eqb-true (at j) (at n) x in
          rw same (get_or-set_same l (at n) _ 0 (rw f.size (below (group_at (n / 256)) (n % 256) (omega arith) t)) ∙ v)
      one t v j w s false x =
          let d : at j ≡ at n → ⊥ = eqb-false (at j) (at n) x in
          get_or-set_other l (at n) (at j) _ 0 d ∙ f.each j (earlier j w (λ e. d (ap at e))) s

      go : (z : Bool) → eqb (standing_of (group_at (n / 256)) (n % 256) / 128 % 2) 1 ≡ z
          → Done (n + 1) (cond z (set l (at n) (reset_byte first second (group_at (n / 256)) (n % 256))) l)
      go true y =
          let t : Stood n = eqb-true _ 1 y in
          let v : reset_byte first second (group_at (n / 256)) (n % 256) ≡ fresh_byte first second (at n) = stands-fresh (group_at (n / 256)) (n % 256) (omega arith) t in
          record {
            size = length-set l (at n) _ ∙ f.size;
            zeros = λ k w a b. get_or-set_other l (at n) k _ 0 (elsewhere (group_at (n / 256)) (n % 256) k (omega arith) t w a b) ∙ f.zeros k w a b;
            each = λ j w s. one t v j w s (eqb (at j) (at n)) refl;
          }
      go false y = record {
        size = f.size;
        zeros = f.zeros;
        each = λ j w s. f.each j (earlier j w (λ e. eqb-false _ 1 y (let u : Stood n = rw e at s in u))) s;
      }

  -- the name of a group's number and an index
  pub next_name : (n i : ℕ) (l : List ℕ) → Done (256 * n + i) l → n < 9 → i < 256
      → Done (256 * n + (i + 1)) (stored l (group_at n) i (reset_byte first second (group_at n) i))
  next_name n i l f h j =
      let d : (256 * n + i) / 256 ≡ n = omega arith in
      let m : (256 * n + i) % 256 ≡ i = omega arith in
      let next : 256 * n + (i + 1) ≡ 256 * n + i + 1 = omega arith in
      rw next (rw (d, m) at (next_done (256 * n + i) l f (omega arith)))

  -- ---- all names are done
  module _ (l : List ℕ) (f : Done 2304 l) where
    -- a place of the row has a name, and so its byte
    row-byte : (k : ℕ) → k < row_size → get_or l (ROW + k) 0 ≡ register (group_on k) (named (reset first second)) (index_on k)
    row-byte k h =
        let n = number_of (group_on k) in
        let i = index_on_lem k in
        let b = number_few (group_on k) in
        let d : (256 * n + index_on k) / 256 ≡ n = omega arith in
        let m : (256 * n + index_on k) % 256 ≡ index_on k = omega arith in
        let g : group_at ((256 * n + index_on k) / 256) ≡ group_on k = ap group_at d ∙ group_numbered (group_on k) in
        let (p, q) = placed (group_on k) (index_on k) k i (each-slot k h) in
        let t : get_or l (at (256 * n + index_on k)) 0 ≡ fresh_byte first second (at (256 * n + index_on k)) = f.each (256 * n + index_on k) (omega arith) (rw (g, m) q) in
        let u : get_or l (ROW + k) 0 ≡ fresh_byte first second (ROW + k) = rw (g, m, p) at t in
        u ∙ (fresh-row k ∙ sym (register-reset first second (group_on k) (index_on k) i))

    msr-byte : get_or l MSR 0 ≡ reset_byte first second Msr 0x00
    unfolding group_at place_of base_of standing_of
    msr-byte = f.each 1536 (omega arith) refl

    palmask-byte : get_or l PALMASK 0 ≡ reset_byte first second Palmask 0x00
    unfolding group_at place_of base_of standing_of
    palmask-byte = f.each 1792 (omega arith) refl

    zero-at : (k : ℕ) → PALMASK < k → k < ROW → get_or l k 0 ≡ 0
    zero-at k a b = f.zeros k b (λ e. omega arith) (λ e. omega arith)

    black : (e : ℕ) → e < 256 → colour_in l e ≡ rgb 0 0 0
    black e h =
        rw (
          zero-at (PALETTE + 3 * e) (omega arith) (omega arith),
          zero-at (PALETTE + (3 * e + 1)) (omega arith) (omega arith),
          zero-at (PALETTE + (3 * e + 2)) (omega arith) (omega arith),
        )

    flag : (t : ℕ → Bool) → t (get_or l FLAGS 0) ≡ t 0
    flag t = ap t (zero-at FLAGS (omega arith) (omega arith))

    all_laid : laid l ≡ kept (reset first second)
    unfolding laid reset
    all_laid = λ t. record {
      row = tab-same (λ k. get_or l (ROW + k) 0) (λ k. register (group_on k) (named (reset first second)) (index_on k)) row_size row-byte t;
      msr = msr-byte t;
      palmask = palmask-byte t;
      picture = flag (λ x. eqb (x / 4 % 2) 1) t;
      palette = (tab-same (colour_in l) (λ e. rgb 0 0 0) 256 black ∙ tab-one (rgb 0 0 0) 256) t;
      indexes = record {
        cr = zero-at CR_INDEX (omega arith) (omega arith) t;
        sr = zero-at SR_INDEX (omega arith) (omega arith) t;
        gr = zero-at GR_INDEX (omega arith) (omega arith) t;
        xr = zero-at XR_INDEX (omega arith) (omega arith) t;
        fr = zero-at FR_INDEX (omega arith) (omega arith) t;
        mr = zero-at MR_INDEX (omega arith) (omega arith) t;
        ar = zero-at AR_INDEX (omega arith) (omega arith) t;
        turn = flag (λ x. eqb (x / 2 % 2) 1) t;
      };
      loading = record {
        index = zero-at INDEX (omega arith) (omega arith) t;
        position = zero-at POSITION (omega arith) (omega arith) t;
        red = zero-at RED (omega arith) (omega arith) t;
        green = zero-at GREEN (omega arith) (omega arith) t;
        reading = flag (λ x. eqb (x % 2) 1) t;
      };
    }

    pub fresh_holds : Holds l (reset first second) 0
    unfolding view spare
    fresh_holds = record {
      size = f.size;
      chip = ap shown_by all_laid ∙ (kept_shows (reset first second) (reset_rowable first second)).chip;
      spare = ap (λ (x : ℕ). x / 8) (zero-at FLAGS (omega arith) (omega arith));
    }
