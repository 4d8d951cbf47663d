-- How the line so far and the text so far grow; and one turn of the input's loop in each of its ways: what is still to come from
-- here is the whole of it.
use Prim.Native.Nat.{ℕ, ◌+◌, ◌≤◌, ◌<◌}
use mathlib.Core.Path.{◌≡◌, refl, ap, ◌∙◌}
use mathlib.Core.Bool.{Bool, true, false, cond}
use mathlib.Core.List.{List, [], ◌∷◌, ◌++◌}
use native.Mathlib.Numerals.{add-one}
use native.Mathlib.Omega.{arith}
use lib.Dec.{ltb}
use lib.ListN.{length, take, drop, get_or, set, length-append, drop_of_length-le}
use lib.Seq.{take-suc-set, length-take-le, take_at, drop-cons}
use borrow.Author.Tests.{lt-ltb, le-ltb, leb-true, eq-eqb, ne_eqb}
use Rattle.text.specs.Adding.{with_added_in, behind_in}
use Rattle.workbench_input.specs.Lines.{Answered, LentInput, place, has_room, line_so_far, text_so_far, byte_kept, with_line, line_done, taken, fed, line_acted, store_left, text_of, answered_in, out_left}

-- ---- the line so far grows by a byte, where there is room for it, and by none where there is not
module _ (s : LentInput) (c : ℕ) where
  pub line_grows : s.size < length s.line → line_so_far (byte_kept s c) ≡ line_so_far s ++ (c ∷ [])
  unfolding byte_kept
  line_grows h = rw (lt-ltb _ _ h, add-one) (take-suc-set s.line s.size c h)

  pub line_full : length s.line ≤ s.size → byte_kept s c ≡ s
  unfolding byte_kept
  line_full h = rw (le-ltb _ _ h)

-- ---- the text so far grows by the reply, where every reply has room
pub text_grows : (s : LentInput) → has_room s ≡ true → text_so_far (line_done s) ≡ text_so_far s ++ text_of (line_acted s.bench s.store (line_so_far s))
unfolding line_done with_added_in behind_in
text_grows s e =
    let t : List ℕ = text_of (line_acted s.bench s.store (line_so_far s)) in
    let h : s.next + 8192 ≤ length s.out = leb-true _ _ e in
    let k : s.next ≤ length s.out = omega arith in
    rw e
    (take_at (take s.next s.out ++ t) (drop (s.next + length t) s.out) (s.next + length t)
    (length-append (take s.next s.out) t ∙ ap (λ (n : ℕ). n + length t) (length-take-le s.next s.out k)))

-- a line begins empty
pub line-begins : (s : LentInput) → line_so_far (line_done s) ≡ []
unfolding line_done
line-begins s = refl

-- ---- a byte taken, by the results of the code
module _ (s : LentInput) (c : ℕ) where
  pub taken-kept : (c ≡ 0x0A → ⊥) → (line₁ : List ℕ) (size₁ : ℕ) → size₁ ≡ cond (ltb s.size (length s.line)) (s.size + 1) s.size
      → line₁ ≡ cond (ltb s.size (length s.line)) (set s.line s.size c) s.line → with_line s line₁ size₁ ≡ taken s c
  unfolding taken byte_kept
  taken-kept h line₁ size₁ en el = rw (ne_eqb _ _ h, en, el) (of_line (ltb s.size (length s.line)))
    where
      of_line : (b : Bool) → with_line s (cond b (set s.line s.size c) s.line) (cond b (s.size + 1) s.size)
          ≡ cond b (with_line s (set s.line s.size c) (s.size + 1)) s
      of_line true = refl
      of_line false = refl

  pub taken-line : c ≡ 0x0A → (a : Answered) (store₁ out₁ : List ℕ)
      → a ≡ answered_in s.out s.next (line_acted s.bench s.store (line_so_far s)) → store₁ ≡ store_left s.bench s.store (line_so_far s)
      → out₁ ≡ out_left s.out s.next (line_acted s.bench s.store (line_so_far s))
      → record { bench = a.bench; store = store₁; line = s.line; size = 0; out = out₁; next = a.next } ≡ taken s c
  unfolding taken line_done
  taken-line h a store₁ out₁ ea es eo = rw (eq-eqb _ _ h, ea, es, eo)

-- ---- a turn of the loop
module _ (s : LentInput) (i : ℕ) (bytes : List ℕ) where
  pub fed_end : length bytes ≤ i → place s i ≡ fed s i (drop i bytes)
  unfolding fed
  fed_end h = rw (drop_of_length-le bytes h)

  pub fed_full : i < length bytes → has_room s ≡ false → place s i ≡ fed s i (drop i bytes)
  unfolding fed
  fed_full h e = rw (drop-cons bytes i 0 h, e)

  pub fed-more : i < length bytes → has_room s ≡ true → (t : LentInput) → t ≡ taken s (get_or bytes i 0)
      → fed t (i + 1) (drop (i + 1) bytes) ≡ fed s i (drop i bytes)
  unfolding fed
  fed-more h e t is = rw (drop-cons bytes i 0 h, e, is, add-one)
