-- Each quick way to do a line gives the definition's memory: what the loops fill in is, byte by byte, what the line becomes.
-- What the copies of pattern and source hold comes as a premise; an operand that is not used may be anything. A line in pieces
-- is a line of each piece, one after the other. Assumes nothing.
use mathlib.Core.Path.{◌≡◌, refl, sym, ap, ◌∙◌}
use mathlib.Core.Bool.{Bool, true, false, cond}
use mathlib.Core.List.{List}
use mathlib.Core.Logic.{inl, inr, ⊎_elim}
use Prim.Native.Nat.{ℕ, ◌+◌, ◌-◌, ◌%◌, ◌≤◌, ◌<◌}
use native.Mathlib.Omega.{arith}
use lib.ListN.{length, get_or}
use Rattle.lists.specs.Scan.{every}
use Rattle.blit_raster.specs.Raster.{raster, uses_source}
use Rattle.blit_raster.proofs.Laws.{cch_source, raster_no_source}
use Rattle.blit.specs.Transfer.{in_turn}
use Rattle.blit.proofs.Turns.{in_turn-same, in_turn-more}
use Rattle.blit_frame.specs.Lines.{byte_at}
use Rattle.blit.specs.Working.{Part, SourceStill, PatternStill, line_byte, bytes_from, blended_byte, taken_byte, becomes}
use Rattle.blit.proofs.Parts.{part_as, part_unique, front, when}
use Rattle.blit.proofs.Still.{line-part}

-- a source that is not used may be anything
anyway : (code : ℕ) (source : Bool) (p x d : ℕ) → source ≡ uses_source code → raster code p x d ≡ raster code p (cond source x 0) d
anyway code true p x d e = refl
anyway code false p x d e = raster_no_source code p x 0 d (sym e)

-- the pattern's bytes, laid out in `pat`, at the place of a line's byte k
tiled_byte : (d p w : ℕ) (m pat : List ℕ) → ((x : ℕ) → x < d % 8 + w → get_or pat x 0 ≡ get_or m (p + x % 8) 0)
    → (k : ℕ) → k < w → get_or pat (d % 8 + k) 0 ≡ get_or m (p + (d + k) % 8) 0
tiled_byte d p w m pat tiled k h = tiled (d % 8 + k) (omega arith) ∙ ap (λ (x : ℕ). get_or m (p + x) 0) (omega arith)

-- by way of a copy b of the source
pub piece_part : (code : ℕ) (pattern : Bool) (d s p w : ℕ) (m m' pat b₀ b : List ℕ)
    → (pattern ≡ true → (x : ℕ) → x < d % 8 + w → get_or pat x 0 ≡ get_or m (p + x % 8) 0) → Part 0 (bytes_from s m) 0 w b₀ b
    → Part d (taken_byte code pattern d (d % 8) pat b m) 0 w m m' → Part d (becomes code true pattern d s p m) 0 w m m'
piece_part code pattern d s p w m m' pat b₀ b tiled T =
    part_as d (taken_byte code pattern d (d % 8) pat b m) (becomes code true pattern d s p m) w m m' (λ k h.
    rw (
      when pattern (get_or pat (d % 8 + k) 0) (get_or m (p + (d + k) % 8) 0) (λ e. tiled_byte d p w m pat (tiled e) k h),
      front (bytes_from s m) w b₀ b T k h,
    ))

module _ (code : ℕ) (source pattern : Bool) (d s p w : ℕ) (m m' : List ℕ) where
  -- where the line reads nothing that it has written, that is the definition's memory
  pub still-done : (left : Bool) → d + w ≤ length m → SourceStill left d s w → (pattern ≡ true → PatternStill (length m) d p w)
      → Part d (becomes code source pattern d s p m) 0 w m m' → m' ≡ in_turn w (line_byte code source pattern left d s p w) m
  still-done left fits first still P =
      part_unique d (becomes code source pattern d s p m) w m m' (in_turn w (line_byte code source pattern left d s p w) m) P
      (line-part code source pattern d s p w m fits still left first)

  module _ (su : source ≡ uses_source code) where
    by_bytes : (u : ℕ → ℕ) → ((k : ℕ) → k < w → u k ≡ becomes code source pattern d s p m k) → Part d u 0 w m m' → Part d (becomes code source pattern d s p m) 0 w m m'
    by_bytes u = part_as d u (becomes code source pattern d s p m) w m m'

    pub copied : code ≡ 0xCC → ((k : ℕ) → k < w → get_or m (s + k) 0 < 256) → Part d (bytes_from s m) 0 w m m' → Part d (becomes code source pattern d s p m) 0 w m m'
    unfolding every uses_source
    copied e small =
        let so : source ≡ true = su ∙ ap uses_source e in
        by_bytes (bytes_from s m) (λ k h. rw (so, e) (sym (cch_source _ (get_or m (s + k) 0) (get_or m (d + k) 0) (small k h))))

    pub blended-taken : Part d (becomes code true pattern d s p m) 0 w m m' → Part d (becomes code source pattern d s p m) 0 w m m'
    blended-taken = by_bytes _ (λ k h. anyway code source _ (get_or m (s + k) 0) (get_or m (d + k) 0) su)

    pub blended-plain : pattern ≡ false → (f : ℕ) (pat : List ℕ) → Part d (blended_byte code true false d s f pat m) 0 w m m' → Part d (becomes code source pattern d s p m) 0 w m m'
    blended-plain e f pat = by_bytes _ (λ k h. rw e (anyway code source 0 (get_or m (s + k) 0) (get_or m (d + k) 0) su))

-- ---- a line in pieces

-- what lies k apart is still in each piece of at most k bytes
piece_still : (left : Bool) (d s k o n : ℕ) → n ≤ k → SourceStill left d s k → SourceStill left (d + o) (s + o) n
piece_still true d s k o n h f = ⊎_elim (λ q. inl (omega arith)) (λ q. inr (omega arith)) f
piece_still false d s k o n h f = ⊎_elim (λ q. inl (omega arith)) (λ q. inr (omega arith)) f

piece_at : (left : Bool) (a w c n i : ℕ) → c + n ≤ w → i < n → byte_at left a w (c + i) ≡ byte_at left (a + cond left (w - c - n) c) n i
piece_at true a w c n i h l = omega arith
piece_at false a w c n i h l = omega arith

module _ (code : ℕ) (pattern left : Bool) (d s p w k : ℕ) (m₀ m m' : List ℕ) (c n o : ℕ) where
  pub piece_done : length m ≡ length m₀ → d + w ≤ length m₀ → SourceStill left d s k → (pattern ≡ true → PatternStill (length m₀) d p w)
      → c + n ≤ w → n ≤ k → o ≡ cond left (w - c - n) c → o + n ≤ w → m ≡ in_turn c (line_byte code (uses_source code) pattern left d s p w) m₀
      → Part (d + o) (becomes code (uses_source code) pattern (d + o) (s + o) p m) 0 n m m' → m' ≡ in_turn (c + n) (line_byte code (uses_source code) pattern left d s p w) m₀
  unfolding line_byte
  piece_done em fits first still hc hk ho hn e P =
      let still' : pattern ≡ true → PatternStill (length m) (d + o) p n = λ q.
      record {
        whole = omega (arith, (still q).whole);
        apart = ⊎_elim (λ z. inl (omega arith)) (λ z. inr (omega arith)) (still q).apart;
      } in
      still-done code (uses_source code) pattern (d + o) (s + o) p n m m' left (omega arith) (piece_still left d s k o n hk first) still' P
      ∙ sym (in_turn-same n (λ i m. line_byte code (uses_source code) pattern left d s p w (c + i) m) (line_byte code (uses_source code) pattern left (d + o) (s + o) p n)
      (λ i l m. rw (ho, piece_at left d w c n i hc l, piece_at left s w c n i hc l)) m)
      ∙ ap (in_turn n (λ i m. line_byte code (uses_source code) pattern left d s p w (c + i) m)) e
      ∙ sym (in_turn-more c n (line_byte code (uses_source code) pattern left d s p w) m₀)
