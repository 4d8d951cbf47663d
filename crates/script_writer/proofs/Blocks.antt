-- The layout that the writer makes: the length of a front, of a block and of the blocks, the bytes of each,
-- and the turn of the loop that writes them.
use mathlib.Core.Path.{◌≡◌, refl, sym, ap, ◌∙◌}
use mathlib.Core.List.{List, [], ◌∷◌, ◌++◌, append-nil}
use Prim.Native.Nat.{ℕ, zero, suc, ◌+◌, ◌-◌, ◌*◌, ◌/◌, ◌%◌, ◌≤◌, ◌<◌}
use native.Mathlib.Numerals.{add-one}
use native.Mathlib.Omega.{arith}
use borrow.Rule.Slice.PartMut.{put_mid}
use lib.ListN.{length, take, drop, get_or, set, length-append, length-drop, drop_of_length-le}
use lib.Seq.{sets-eq, take_at, paste, paste-suc}
use Rattle.lists.specs.Put.{put}
use Rattle.lists.proofs.Parts.{part_back}
use Rattle.std.proofs.Math.Seq.{get_or-append_right}
use Rattle.lists.proofs.Put.{put_then}
use Rattle.lists.proofs.Tab.{tab-length, tab-at}
use Rattle.script.specs.Block.{check_word}
use Rattle.script_writer.specs.Write.{header, places, front, block_of, blocks_to}

-- ---- a front
pub length-places : (s : List ℕ) (k : ℕ) → length (places s k) ≡ 504
length-places s k = tab-length (λ p. get_or s (504 * k + p) 0) 504

pub places-at : (s : List ℕ) (k i : ℕ) → i < 504 → get_or (places s k) i 0 ≡ get_or s (504 * k + i) 0
places-at s k i h = tab-at (λ p. get_or s (504 * k + p) 0) 504 i 0 h

pub length_front : (s : List ℕ) (k n : ℕ) → length (front s k n) ≡ 510
unfolding front
length_front s k n = omega (arith, length-places s k)

-- a turn of the loop that copies the places
pub places-more : (s : List ℕ) (k : ℕ) (b₀ b : List ℕ) (i r : ℕ) → b ≡ paste b₀ 6 (places s k) i → r ≡ get_or s (504 * k + i) 0
    → i < 504 → length b₀ ≡ 512 → set b (6 + i) r ≡ paste b₀ 6 (places s k) (i + 1)
places-more s k b₀ b i r eb er h hb =
    ap (λ (v : ℕ). set b (6 + i) v) (er ∙ sym (places-at s k i h))
    ∙ ap (λ (l : List ℕ). set l (6 + i) (get_or (places s k) i 0)) eb
    ∙ paste-suc b₀ 6 (places s k) i 0 (omega arith) (omega (arith, length-places s k))
    ∙ ap (λ (n : ℕ). paste b₀ 6 (places s k) n) (sym (add-one i))

-- past the header stand the bytes of the list
pub front-past : (s : List ℕ) (k n i : ℕ) → 6 ≤ i → i < 510 → get_or (front s k n) i 0 ≡ get_or s (504 * k + (i - 6)) 0
unfolding front
front-past s k n i h h' = get_or-append_right (header s k n) (places s k) i 0 h ∙ places-at s k (i - 6) (omega arith)

-- ---- a block: what the header, the places and the last two stores make of 512 bytes
module _ (s : List ℕ) (k n : ℕ) (b b₁ b₂ : List ℕ) (hb : length b ≡ 512) (e₁ : b₁ ≡ put b 0 (header s k n)) (e₂ : b₂ ≡ put b₁ 6 (places s k)) where
  front-put : b₂ ≡ front s k n ++ drop 510 b
  unfolding front
  front-put =
      let e : 0 + length (header s k n ++ places s k) ≡ 510 = omega (arith, length-places s k) in
      put_then b (header s k n) (places s k) 0 6 e₁ e₂ refl (omega arith)
      ∙ ap (λ (m : ℕ). header s k n ++ places s k ++ drop m b) e

  pub length_put-front : length b₂ ≡ 512
  length_put-front = ap length front-put ∙ simp (length-append, length_front, length-drop) (omega arith)

  pub block-done : (w : ℕ) → w ≡ check_word (take 510 b₂) → set (set b₂ 510 (w % 256)) 511 (w / 256) ≡ block_of s k n
  block-done w ew =
      let t : take 510 b₂ ≡ front s k n = ap (take 510) front-put ∙ take_at (front s k n) (drop 510 b) 510 (length_front s k n) in
      let h : length b₂ ≡ 512 = length_put-front in
      let ew' : w ≡ check_word (front s k n) = ew ∙ ap check_word t in
      sets-eq (w % 256 ∷ w / 256 ∷ []) b₂ 510 (omega arith)
      ∙ ap (λ (l : List ℕ). take 510 b₂ ++ (w % 256 ∷ w / 256 ∷ []) ++ l) (drop_of_length-le b₂ {i = 512} (omega arith))
      ∙ append-nil (take 510 b₂ ++ (w % 256 ∷ w / 256 ∷ []))
      ∙ ap (λ (l : List ℕ). l ++ (w % 256 ∷ w / 256 ∷ [])) t
      ∙ ap (λ (v : ℕ). front s k n ++ (v % 256 ∷ v / 256 ∷ [])) ew'

pub length-block : (s : List ℕ) (k n : ℕ) → length (block_of s k n) ≡ 512
length-block s k n = simp (length-append, length_front)

-- ---- the blocks
pub blocks_more : (s : List ℕ) (n k : ℕ) → blocks_to s n (k + 1) ≡ blocks_to s n k ++ block_of s k n
unfolding blocks_to
blocks_more s n k = rw add-one

pub length-blocks : (s : List ℕ) (n k : ℕ) → length (blocks_to s n k) ≡ 512 * k
unfolding blocks_to
length-blocks s n zero = refl
length-blocks s n (suc k) = length-append (blocks_to s n k) (block_of s k n) ∙ omega (arith, length-blocks s n k, length-block s k n)

-- a turn of the loop that writes them
pub blocks_back : (s : List ℕ) (n k : ℕ) (y b o : List ℕ) → o ≡ blocks_to s n k ++ drop (512 * k) b → y ≡ block_of s k n
    → put_mid (512 * k) (512 * k + 512 - 512 * k) o y ≡ blocks_to s n (k + 1) ++ drop (512 * (k + 1)) b
blocks_back s n k y b o ho hy =
    let e : 512 * k + 512 ≡ 512 * (k + 1) = omega arith in
    part_back (blocks_to s n k) y b o (512 * k) (512 * k + 512) ho (length-blocks s n k) (omega arith)
    ∙ ap (λ (l : List ℕ). blocks_to s n k ++ l ++ drop (512 * k + 512) b) hy
    ∙ ap (λ (l : List ℕ). l ++ drop (512 * k + 512) b) (sym (blocks_more s n k))
    ∙ ap (λ (i : ℕ). blocks_to s n (k + 1) ++ drop i b) e
