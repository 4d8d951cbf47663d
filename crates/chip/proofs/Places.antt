-- Where a register stands in the row, as the code asks: a number below 275, or none. What the proofs of `place_of`, `get`, `put`
-- and `fill` cite.
use Rattle.std.proofs.Common.{◌≡◌, ℕ, suc, ◌+◌, ◌-◌, ◌*◌, ◌/◌, ◌%◌, ◌<◌, ◌≤◌, Bool, true, false, cond, eqb, ltb, List, length, get_or, set, sym, refl, ap, ◌∙◌, true≢false, arith, get_or-set_other, get_or-set_same, ltb-false, ltb-true, eqb-true}
use Rattle.std.specs.Prelude.{Option, Some, None, IfSome, replicate}
use Rattle.lists.specs.Tab.{tab}
use borrow.Author.Tests.{eqb-false}
use Rattle.lists.proofs.Tab.{tab-same}
use Rattle.chip_registers.specs.Groups.{number_of, group_at, is_indexed}
use Rattle.chip_registers.specs.Row.{Slot, At, Nowhere, before, slot_of, row_size}
use Rattle.chip_registers.specs.WriteRule.{writable_now, written}
use Rattle.chip_registers.specs.declared.Group.{Group}
use Rattle.chip_registers.specs.declared.Group.TheVariants.{Cr, Sr, Gr, Xr, Fr, Mr, Msr, Palmask, Ar}
use Rattle.chip_registers.proofs.RowLaws.{stands, slot-one, nowhere_unlisted}
use Rattle.chip_registers.proofs.TableLaws.{group_numbered, number_few}
use Rattle.chip_masks.specs.Table.{standing, standing_of}
use Rattle.chip.specs.State.{named, with_named}
use Rattle.chip.specs.Names.{register, locked, received}
use Rattle.chip.specs.Reset.{reset_byte, reset}
use Rattle.chip.specs.View.{in_row, view, place_at, Filled}
use Rattle.chip.specs.Palette.{rgb}
use Rattle.chip.specs.declared.Rgb.{Rgb}
use Rattle.chip.specs.declared.Chip.{Chip as Kept}
use Rattle.chip.proofs.ResetLaws.{reset_unlisted}
use Rattle.chip.proofs.ViewLaws.{with_row, shown-at, received-at, received_nowhere}

-- what the answer tells of the place
some_at : {k : ℕ} (s : Slot) → place_at s ≡ Some k → s ≡ At k
some_at (At k) e = cc
some_at Nowhere e = cc

none_nowhere : (s : Slot) → place_at s ≡ None → s ≡ Nowhere
none_nowhere (At k) e = cc
none_nowhere Nowhere e = refl

-- where a group's registers start in the row; none for MSR and PALMASK
abbrev first_at : Group → Option ℕ
first_at g = cond (is_indexed g) (Some (before g)) None

at_inj : {j k : ℕ} → At j ≡ At k → j ≡ k
at_inj e = cc

module _ (g : Group) (i : ℕ) (h : i < 256) where
  -- MSR and PALMASK stand in no row
  pub beside-row : None ≡ first_at g → None ≡ place_at (slot_of g i)
  beside-row x = go (is_indexed g) (slot_of g i) refl refl x
    where
      go : (z : Bool) (s : Slot) → is_indexed g ≡ z → slot_of g i ≡ s → None ≡ cond z (Some (before g)) None → None ≡ place_at s
      go true s w e n = cc
      go false (At k) w e n = absurd (true≢false (sym (stands g i k h e).listed ∙ w))
      go false Nowhere w e n = refl

  -- the byte that says where a register stands: below 128 it is none
  pub stands_nowhere : standing_of g i < 128 → None ≡ place_at (slot_of g i)
  unfolding standing_of
  stands_nowhere low = go (is_indexed g) (slot_of g i) low
    where
      go : (z : Bool) (s : Slot) → cond z (standing (before g) s) 128 < 128 → None ≡ place_at s
      go true (At k) l = absurd (omega arith)
      go true Nowhere l = refl
      go false s l = absurd (omega arith)

  -- from 128 on it counts from the group's first
  pub stands-there : {first : ℕ} → Some first ≡ first_at g → 128 ≤ standing_of g i → Some (first + (standing_of g i - 128)) ≡ place_at (slot_of g i)
  unfolding standing_of
  stands-there {first = first} x high = go (is_indexed g) (slot_of g i) refl x high
    where
      go : (z : Bool) (s : Slot) → slot_of g i ≡ s → Some first ≡ cond z (Some (before g)) None → 128 ≤ cond z (standing (before g) s) 128
          → Some (first + (cond z (standing (before g) s) 128 - 128)) ≡ place_at s
      go true (At k) e x l =
          let same : first ≡ before g = cc in
          let k-is : first + (128 + (k - before g) - 128) ≡ k = omega (arith, (stands g i k h e).from) in
          ap Some k-is
      go true Nowhere e x l = absurd (omega arith)
      go false s e x l = cc

  -- a place is one of the row's
  pub place-within : IfSome (place_at (slot_of g i)) (λ k. k < row_size)
  place-within = go (slot_of g i) refl
    where
      go : (s : Slot) → slot_of g i ≡ s → IfSome (place_at s) (λ k. k < row_size)
      go (At k) e = (stands g i k h e).within
      go Nowhere e = tt

-- a register is read where it stands; MSR and PALMASK in fields of their own, and an unlisted index nowhere
module _ (f : Kept) (g : Group) (i : ℕ) (h : i < 256) {p : Option ℕ} (e : p ≡ place_at (slot_of g i)) where
  pub read-there : {k : ℕ} → p ≡ Some k → get_or f.row k 0 ≡ register g (named (view f)) i
  read-there {k = k} w =
      let s = some_at (slot_of g i) (sym e ∙ w) in
      sym (shown-at g f i h (stands g i k h s).listed ∙ ap (in_row f.row) s)

  pub read_nowhere : is_indexed g ≡ true → p ≡ None → 0x00 ≡ register g (named (view f)) i
  read_nowhere x w = sym (shown-at g f i h x ∙ ap (in_row f.row) (none_nowhere (slot_of g i) (sym e ∙ w)))

  -- and so it receives a byte
  pub put-there : {k : ℕ} → p ≡ Some k → (v b m : ℕ) → length f.row ≡ row_size → m ≡ writable_now g (locked g (named (view f))) i
      → b ≡ written (get_or f.row k 0) v m → view (with_row f (set f.row k b)) ≡ with_named (view f) (received g (named (view f)) i v)
  put-there {k = k} w v b m n mask made = rw made (received-at g f i k v m h n (some_at (slot_of g i) (sym e ∙ w)) mask)

  pub put_nowhere : (v : ℕ) → is_indexed g ≡ true → p ≡ None → view f ≡ with_named (view f) (received g (named (view f)) i v)
  put_nowhere v x w = sym (received_nowhere g f i v h x (none_nowhere (slot_of g i) (sym e ∙ w)))

-- every other group has its registers in the row
pub indexed-else : (g : Group) → (g ≡ Msr → ⊥) → (g ≡ Palmask → ⊥) → is_indexed g ≡ true
indexed-else Cr a b = refl
indexed-else Sr a b = refl
indexed-else Gr a b = refl
indexed-else Xr a b = refl
indexed-else Fr a b = refl
indexed-else Mr a b = refl
indexed-else Msr a b = absurd (a refl)
indexed-else Palmask a b = absurd (b refl)
indexed-else Ar a b = refl

-- MSR and PALMASK are read and receive a byte in their fields
module _ (f : Kept) where
  pub read-msr : f.msr ≡ (named (view f)).msr
  unfolding view
  read-msr = refl

  pub read-palmask : f.palmask ≡ (named (view f)).palmask
  unfolding view
  read-palmask = refl

  pub put-msr : (g : Group) → g ≡ Msr → (i v b m : ℕ) → m ≡ writable_now g (locked g (named (view f))) i → b ≡ written f.msr v m
      → view (record { row = f.row; msr = b; palmask = f.palmask; picture = f.picture; palette = f.palette; indexes = f.indexes; loading = f.loading })
      ≡ with_named (view f) (received g (named (view f)) i v)
  unfolding view received
  put-msr g e i v b m mask made = rw (made, mask, e)

  pub put-palmask : (g : Group) → g ≡ Palmask → (i v b m : ℕ) → m ≡ writable_now g (locked g (named (view f))) i → b ≡ written f.palmask v m
      → view (record { row = f.row; msr = f.msr; palmask = b; picture = f.picture; palette = f.palette; indexes = f.indexes; loading = f.loading })
      ≡ with_named (view f) (received g (named (view f)) i v)
  unfolding view received
  put-palmask g e i v b m mask made = rw (made, mask, e)

-- ---- the row that a reset leaves: name after name, each at its place
module _ (first second : ℕ) where
  -- the name of number m has its byte: 256 numbers a group
  abbrev pub Stored : List ℕ → ℕ → Type 0
  Stored r m = is_indexed (group_at (m / 256)) ≡ true
      → in_row r (slot_of (group_at (m / 256)) (m % 256)) ≡ reset_byte first second (group_at (m / 256)) (m % 256)

  unlisted_stored : (r : List ℕ) (m : ℕ) → slot_of (group_at (m / 256)) (m % 256) ≡ Nowhere → Stored r m
  unlisted_stored r m e x =
      let h : m % 256 < 256 = omega arith in
      ap (in_row r) e ∙ sym (reset_unlisted first second (group_at (m / 256)) (m % 256) (nowhere_unlisted (group_at (m / 256)) (m % 256) h x e))

  module _ (r : List ℕ) (n : ℕ) (done : (m : ℕ) → m < n → Stored r m) {p : Option ℕ} (e : p ≡ place_at (slot_of (group_at (n / 256)) (n % 256))) where
    pub skipped : p ≡ None → (m : ℕ) → m < suc n → Stored r m
    skipped w m h = go (ltb m n) refl
      where
        go : (z : Bool) → ltb m n ≡ z → Stored r m
        go true t = done m (ltb-true m n t)
        go false t =
            let same : m ≡ n = omega (arith, ltb-false m n t) in
            rw same (unlisted_stored r n (none_nowhere (slot_of (group_at (n / 256)) (n % 256)) (sym e ∙ w)))

    module _ {k : ℕ} (w : p ≡ Some k) (b : ℕ) (size : length r ≡ row_size) (made : b ≡ reset_byte first second (group_at (n / 256)) (n % 256)) where
      here : slot_of (group_at (n / 256)) (n % 256) ≡ At k
      here = some_at (slot_of (group_at (n / 256)) (n % 256)) (sym e ∙ w)

      pub stored : (m : ℕ) → m < suc n → Stored (set r k b) m
      stored m h x = go (slot_of (group_at (m / 256)) (m % 256)) refl
        where
          below : (m : ℕ) → m % 256 < 256
          below m = omega arith

          beside : (y : ℕ) → slot_of (group_at (m / 256)) (m % 256) ≡ At y → (y ≡ k → ⊥) → m < n
          beside y s ne = last (ltb m n) refl
            where
              last : (z : Bool) → ltb m n ≡ z → m < n
              last true t = ltb-true m n t
              last false t =
                  let same : m ≡ n = omega (arith, ltb-false m n t) in
                  absurd (ne (at_inj (sym (rw same at s) ∙ here)))

          there : (y : ℕ) → slot_of (group_at (m / 256)) (m % 256) ≡ At y → (z : Bool) → eqb y k ≡ z
              → get_or (set r k b) y 0 ≡ reset_byte first second (group_at (m / 256)) (m % 256)
          there y s true t =
              let yk : y ≡ k = eqb-true y k t in
              let room : k < length r = rw size (stands (group_at (n / 256)) (n % 256) k (below n) here).within in
              let (d, j) = slot-one (group_at (m / 256)) (group_at (n / 256)) (m % 256) (n % 256) k (below m) (below n) (s ∙ ap At yk) here in
              ap (λ (q : ℕ). get_or (set r k b) q 0) yk ∙ (get_or-set_same r k b 0 room ∙ (made ∙ rw (d, j)))
          there y s false t =
              let ne : y ≡ k → ⊥ = eqb-false y k t in
              get_or-set_other r k y b 0 ne ∙ (sym (ap (in_row r) s) ∙ done m (beside y s ne) x)

          go : (s : Slot) → slot_of (group_at (m / 256)) (m % 256) ≡ s
              → in_row (set r k b) (slot_of (group_at (m / 256)) (m % 256)) ≡ reset_byte first second (group_at (m / 256)) (m % 256)
          go (At y) s = ap (in_row (set r k b)) s ∙ there y s (eqb y k) refl
          go Nowhere s = unlisted_stored (set r k b) m s x

  -- so the loops go on: index i of group k has the number 256 k + i
  module _ (r : List ℕ) (k i : ℕ) (h : i < 256) (done : (m : ℕ) → m < 256 * k + i → Stored r m) {p : Option ℕ} (e : p ≡ place_at (slot_of (group_at k) i)) where
    of-group : (256 * k + i) / 256 ≡ k
    of-group = omega arith

    of-index : (256 * k + i) % 256 ≡ i
    of-index = omega arith

    pub noted : {at : ℕ} → p ≡ Some at → (b : ℕ) → length r ≡ row_size → b ≡ reset_byte first second (group_at k) i
        → (m : ℕ) → m < 256 * k + (i + 1) → Stored (set r at b) m
    noted w b size made m l = stored r (256 * k + i) done (rw (of-group, of-index) e) w b size (rw (of-group, of-index) made) m (omega arith)

    pub passed : p ≡ None → (m : ℕ) → m < 256 * k + (i + 1) → Stored r m
    passed w m l = skipped r (256 * k + i) done (rw (of-group, of-index) e) w m (omega arith)

  -- so all names have theirs
  pub filled : (r : List ℕ) → ((m : ℕ) → m < 2304 → Stored r m) → Filled first second r
  filled r done g x =
      tab-same (λ i. in_row r (slot_of g i)) (reset_byte first second g) 256
      (λ i h. let low = number_few g in
      let q : (256 * number_of g + i) / 256 ≡ number_of g = omega arith in
      let j : (256 * number_of g + i) % 256 ≡ i = omega arith in
      let t = done (256 * number_of g + i) (omega arith) in
      (rw (q, j, group_numbered g) at t) x)

  -- a kept state that a reset leaves: this row, its registers beside it, and nothing else that is not 0
  pub new_shown : (k : Kept) (black : Rgb) → Filled first second k.row → k.msr ≡ reset_byte first second Msr 0x00
      → k.palmask ≡ reset_byte first second Palmask 0x00 → k.picture ≡ false → k.palette ≡ replicate 256 black
      → (black.red ≡ 0) × ((black.green ≡ 0) × (black.blue ≡ 0))
      → (k.indexes.cr ≡ 0) × ((k.indexes.sr ≡ 0) × ((k.indexes.gr ≡ 0) × ((k.indexes.xr ≡ 0) × ((k.indexes.fr ≡ 0) × ((k.indexes.mr ≡ 0)
      × ((k.indexes.ar ≡ 0) × (k.indexes.turn ≡ false)))))))
      → (k.loading.index ≡ 0) × ((k.loading.position ≡ 0) × ((k.loading.red ≡ 0) × ((k.loading.green ≡ 0) × (k.loading.reading ≡ false))))
      → view k ≡ reset first second
  unfolding view reset
  new_shown k black row msr palmask picture palette (r, (g, b)) (cr, (sr, (gr, (xr, (fr, (mr, (ar, turn))))))) (index, (position, (red, (green, reading)))) =
      rw (row Cr refl, row Sr refl, row Gr refl, row Xr refl, row Fr refl, row Mr refl, row Ar refl, msr, palmask, picture, palette)
      (λ n. record {
        cr = tab (reset_byte first second Cr) 256;
        sr = tab (reset_byte first second Sr) 256;
        gr = tab (reset_byte first second Gr) 256;
        xr = tab (reset_byte first second Xr) 256;
        fr = tab (reset_byte first second Fr) 256;
        mr = tab (reset_byte first second Mr) 256;
        ar = tab (reset_byte first second Ar) 256;
        msr = reset_byte first second Msr 0x00;
        palmask = reset_byte first second Palmask 0x00;
        picture = false;
        palette = replicate 256 (rgb (r n) (g n) (b n));
        indexes = record { cr = cr n; sr = sr n; gr = gr n; xr = xr n; fr = fr n; mr = mr n; ar = ar n; turn = turn n };
        loading = record { index = index n; position = position n; red = red n; green = green n; reading = reading n };
      })
