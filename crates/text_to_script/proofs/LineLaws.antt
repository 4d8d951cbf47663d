-- Laws of lines: a character more of a line, its end at a line feed, and at the text's end.
use Prim.Native.Nat.{ℕ, suc, ◌+◌, ◌-◌, ◌<◌, ◌≤◌}
use native.Mathlib.Omega.{arith}
use native.Mathlib.Numerals.{add-one}
use mathlib.Core.Path.{◌≡◌, refl, sym, ap, ◌∙◌}
use mathlib.Core.List.{List, [], ◌∷◌, ◌++◌}
use lib.ListN.{length, get_or, take, drop, length-drop, drop_of_length-le}
use lib.Seq.{drop-cons, take-suc, get_or-drop, length-take-le}
use borrow.Author.Tests.{eq-eqb, ne_eqb}
use Rattle.text_to_script.specs.Lines.{last_line, lines_from, lines_of}
use Rattle.text_to_script.specs.Working.{part, LineEnds}

last_some : (l : List ℕ) → 0 < length l → last_line l ≡ l ∷ []
last_some [] h = absurd (omega arith)
last_some (b ∷ bs) h = refl

module _ (t : List ℕ) (from i : ℕ) (after : from ≤ i) where
  -- the part grows by one
  part_next : i < length t → part t from (i + 1) ≡ part t from i ++ (get_or t i 0 ∷ [])
  part_next h =
      let e : i + 1 - from ≡ suc (i - from) = omega arith in
      let s : from + (i - from) ≡ i = omega arith in
      let k : i - from < length (drop from t) = omega (arith, length-drop from t) in
      ap (λ (n : ℕ). take n (drop from t)) e
      ∙ take-suc (drop from t) (i - from) 0 k
      ∙ ap (λ (x : ℕ). part t from i ++ (x ∷ [])) (get_or-drop from t (i - from) 0 ∙ ap (λ (p : ℕ). get_or t p 0) s)

  module _ (going : lines_from (part t from i) (drop i t) ≡ lines_of (drop from t)) where
    pub lines_more : i < length t → (get_or t i 0 ≡ 0x0A → ⊥) → lines_from (part t from (i + 1)) (drop (i + 1) t) ≡ lines_of (drop from t)
    unfolding lines_from
    lines_more h c =
        let one : lines_from (part t from i) (drop i t) ≡ lines_from (part t from i ++ (get_or t i 0 ∷ [])) (drop (i + 1) t) =
        rw (drop-cons t i 0 h, ne_eqb (get_or t i 0) 0x0A c, add-one i) in
        ap (λ (l : List ℕ). lines_from l (drop (i + 1) t)) (part_next h) ∙ sym one ∙ going

    pub lines_feed : i < length t → get_or t i 0 ≡ 0x0A → LineEnds t from i
    unfolding lines_from
    lines_feed h c = record {
      after = after;
      within = omega arith;
      lines = sym going ∙ rw (drop-cons t i 0 h, eq-eqb (get_or t i 0) 0x0A c, add-one i);
    }

    pub lines_end : from < length t → i ≡ length t → LineEnds t from i
    unfolding lines_from
    lines_end h e =
        let none : drop i t ≡ [] = drop_of_length-le t {i = i} (omega arith) in
        let past : drop (i + 1) t ≡ [] = drop_of_length-le t {i = i + 1} (omega arith) in
        let size : length (part t from i) ≡ i - from = length-take-le (i - from) (drop from t) (omega (arith, length-drop from t)) in
        record {
          after = after;
          within = omega arith;
          lines = sym going ∙ rw (none, past) (last_some (part t from i) (omega arith));
        }
