-- A line of which no byte is written before it is read becomes, in either direction, what its bytes give in the memory as it was:
-- the stretch done so far, a part from one end, does not reach what is read next. Assumes nothing.
use mathlib.Core.Path.{◌≡◌, refl}
use mathlib.Core.Bool.{Bool, true, false, cond}
use mathlib.Core.List.{List}
use mathlib.Core.Logic.{◌⊎◌, inl, inr, ⊎_elim}
use Prim.Native.Nat.{ℕ, zero, suc, ◌+◌, ◌-◌, ◌%◌, ◌≤◌, ◌<◌}
use native.Mathlib.Nat.{mod-lt, le_refl}
use native.Mathlib.Numerals.{add-one}
use native.Mathlib.Omega.{arith}
use lib.Dec.{lit<}
use lib.ListN.{length, get_or}
use Rattle.blit_raster.specs.Raster.{raster}
use Rattle.blit.specs.Transfer.{in_turn}
use Rattle.blit.specs.Working.{Part, becomes, SourceStill, PatternStill, line_byte}
use Rattle.blit.proofs.Parts.{part_none, part_up, part_down, when}

-- byte k's operands are read as they were, where the stretch from i to j does not hold them
module _ (code : ℕ) (source pattern : Bool) (d s p w : ℕ) (m m' : List ℕ) (i j k : ℕ) (P : Part d (becomes code source pattern d s p m) i j m m') where
  outside : (x : ℕ) → (x < d + i) ⊎ (d + j ≤ x) → get_or m' x 0 ≡ get_or m x 0
  outside x h = ⊎_elim (P.below x) (P.above x) h

  line_read_lem : (s + k < d + i) ⊎ (d + j ≤ s + k) → (d + k < d + i) ⊎ (d + j ≤ d + k)
      → (pattern ≡ true → (p + (d + k) % 8 < d + i) ⊎ (d + j ≤ p + (d + k) % 8))
      → raster code (cond pattern (get_or m' (p + (d + k) % 8) 0) 0) (cond source (get_or m' (s + k) 0) 0) (get_or m' (d + k) 0)
      ≡ becomes code source pattern d s p m k
  line_read_lem hs hd hp =
      rw (
        when pattern (get_or m' (p + (d + k) % 8) 0) (get_or m (p + (d + k) % 8) 0) (λ e. outside (p + (d + k) % 8) (hp e)),
        outside (s + k) hs,
        outside (d + k) hd,
      )

module _ (code : ℕ) (source pattern : Bool) (d s p w : ℕ) (m : List ℕ) (fits : d + w ≤ length m)
    (still : pattern ≡ true → PatternStill (length m) d p w) where
  pattern_out : (i j k : ℕ) → j ≤ w → pattern ≡ true → (p + (d + k) % 8 < d + i) ⊎ (d + j ≤ p + (d + k) % 8)
  pattern_out i j k h e =
      let l = mod-lt (d + k) (lit< {m = 0} {n = 8} tt) in
      ⊎_elim (λ q. inl (omega arith)) (λ q. inr (omega arith)) (still e).apart

  ascending : SourceStill false d s w → (c : ℕ) → c ≤ w
      → Part d (becomes code source pattern d s p m) 0 c m (in_turn c (line_byte code source pattern false d s p w) m)
  unfolding in_turn line_byte
  ascending h zero l = part_none d (becomes code source pattern d s p m) 0 m
  ascending h (suc c) l =
      let m' = in_turn c (line_byte code source pattern false d s p w) m in
      let P = ascending h c (omega arith) in
      let hs : (s + c < d + 0) ⊎ (d + c ≤ s + c) = ⊎_elim (λ q. inr (omega arith)) (λ q. inl (omega arith)) h in
      rw (← add-one c)
      (part_up d (becomes code source pattern d s p m) m m' (d + c) _ (omega arith) c P refl
      (line_read_lem code source pattern d s p w m m' 0 c c P hs (inr (omega arith)) (pattern_out 0 c c (omega arith))))

  descending : SourceStill true d s w → (c : ℕ) → c ≤ w
      → Part d (becomes code source pattern d s p m) (w - c) w m (in_turn c (line_byte code source pattern true d s p w) m)
  unfolding in_turn line_byte
  descending h zero l = let z : w - 0 ≡ w = omega arith in rw z (part_none d (becomes code source pattern d s p m) w m)
  descending h (suc c) l =
      let m' = in_turn c (line_byte code source pattern true d s p w) m in
      let k = w - suc c in
      let e : w - c ≡ suc k = omega arith in
      let z : w - 1 - c ≡ k = omega arith in
      let P : Part d (becomes code source pattern d s p m) (suc k) w m m' = rw e at (descending h c (omega arith)) in
      let hs : (s + k < d + suc k) ⊎ (d + w ≤ s + k) = ⊎_elim (λ q. inl (omega arith)) (λ q. inr (omega arith)) h in
      rw z
      (part_down d (becomes code source pattern d s p m) m m' (d + k) _ (omega arith) k w P (omega arith) refl
      (line_read_lem code source pattern d s p w m m' (suc k) w k P hs (inl (omega arith)) (pattern_out (suc k) w k (le_refl w))))

  pub line-part : (left : Bool) → SourceStill left d s w
      → Part d (becomes code source pattern d s p m) 0 w m (in_turn w (line_byte code source pattern left d s p w) m)
  line-part false h = ascending h w (le_refl w)
  line-part true h = let z : w - w ≡ 0 = omega arith in rw z at (descending h w (le_refl w))
