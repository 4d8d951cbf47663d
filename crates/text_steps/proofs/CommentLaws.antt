-- Laws of comments: what a line says is what stands before its comment, so that a comment behind a blank changes nothing
-- (`comment_changes_nothing`), a line that has nothing but a comment is passed over, indented or not (`comment_passed`), and a
-- text without a `#` has no comment (`no_comment`).
use Prim.Native.Nat.{ℕ, ◌+◌, ◌≤◌, ◌<◌}
use native.Mathlib.Omega.{arith}
use native.Mathlib.Numerals.{add-one}
use mathlib.Core.Bool.{Bool, true, false, cond, ◌&&◌}
use mathlib.Core.Logic.{◌⊎◌, inl, inr, ⊎_elim}
use mathlib.Core.Path.{◌≡◌, refl, sym, ap, ◌∙◌}
use mathlib.Core.List.{List, [], ◌∷◌, ◌++◌, append_assoc, append-nil}
use lib.Dec.{eqb}
use lib.ListN.{length, get_or, take, drop, drop_of_length-le}
use lib.Seq.{drop-cons, take-suc}
use borrow.Author.Tests.{ne_eqb, ltb-true}
use Rattle.std.proofs.lemmas.Bool.{and_parts}
use Rattle.text_tokens.specs.declared.Tokens.{Tokens}
use Rattle.text_tokens.specs.Tokens.{blank, none, ended, taken, taken_all, tokens_of}
use Rattle.text_tokens.proofs.TokenLaws.{blank_last}
use Rattle.text_steps.specs.Reading.{said, before_comment, line_of}
use Rattle.text_steps.proofs.Plain.{plain_character, plain, plain_other}
use Rattle.std.specs.Prelude.{Ok, None}

and_false : (b : Bool) → (b && false) ≡ false
and_false true = refl
and_false false = refl

-- ---- from one place to the next: a loop's turn
module _ (l : List ℕ) (i : ℕ) (free : Bool) (going : take i l ++ before_comment free (drop i l) ≡ before_comment true l) where
  pub comment_here : i < length l → (free && eqb (get_or l i 0) 0x23) ≡ true → take i l ≡ before_comment true l
  unfolding before_comment
  comment_here h t =
      let one : before_comment free (drop i l) ≡ [] = rw (drop-cons l i 0 h, t) in
      sym (append-nil (take i l)) ∙ ap (◌++◌ (take i l)) (sym one) ∙ going

  pub comment_later : i < length l → (free && eqb (get_or l i 0) 0x23) ≡ false
      → take (i + 1) l ++ before_comment (blank (get_or l i 0)) (drop (i + 1) l) ≡ before_comment true l
  unfolding before_comment
  comment_later h t =
      let c : ℕ = get_or l i 0 in
      let rest : List ℕ = before_comment (blank (get_or l i 0)) (drop (i + 1) l) in
      let one : before_comment free (drop i l) ≡ get_or l i 0 ∷ before_comment (blank (get_or l i 0)) (drop (i + 1) l) = rw (drop-cons l i 0 h, t, add-one i) in
      let more : take (i + 1) l ≡ take i l ++ (get_or l i 0 ∷ []) = rw (add-one i) (take-suc l i 0 h) in
      ap (λ (x : List ℕ). x ++ rest) more ∙ append_assoc (take i l) (c ∷ []) rest ∙ ap (◌++◌ (take i l)) (sym one) ∙ going

  pub comment_none : length l ≤ i → take i l ≡ before_comment true l
  unfolding before_comment
  comment_none h =
      let past : drop i l ≡ [] = drop_of_length-le l {i = i} h in
      let end : take i l ++ [] ≡ before_comment true l = rw past at going in
      sym (append-nil (take i l)) ∙ end

-- ---- no comment
pub no_comment : (free : Bool) (l : List ℕ) → plain l ≡ true → before_comment free l ≡ l
unfolding before_comment
no_comment free [] h = refl
no_comment free (c ∷ cs) h =
    let t = and_parts (plain_character c) (plain cs) h in
    rw (ne_eqb c 0x23 (plain_other c t.0).1, and_false free) (ap (λ (x : List ℕ). c ∷ x) (no_comment (blank c) cs t.1))

-- ---- a comment behind a blank
module _ (b : ℕ) (is-blank : blank b ≡ true) (r : List ℕ) where
  cut : (free : Bool) (l : List ℕ)
      → (before_comment free (l ++ (b ∷ 0x23 ∷ r)) ≡ before_comment free l) ⊎ (before_comment free (l ++ (b ∷ 0x23 ∷ r)) ≡ before_comment free l ++ (b ∷ []))
  unfolding before_comment
  cut free [] =
      let low : b < 0x21 = ltb-true _ _ is-blank in
      inr (rw (ne_eqb b 0x23 (λ z. omega arith), and_false free, is-blank))
  cut free (c ∷ cs) = go (free && eqb c 0x23) (cut (blank c) cs)
    where
      x : List ℕ
      x = before_comment (blank c) (cs ++ (b ∷ 0x23 ∷ r))

      y : List ℕ
      y = before_comment (blank c) cs

      go : (t : Bool) → (x ≡ y) ⊎ (x ≡ y ++ (b ∷ [])) → (cond t [] (c ∷ x) ≡ cond t [] (c ∷ y)) ⊎ (cond t [] (c ∷ x) ≡ cond t [] (c ∷ y) ++ (b ∷ []))
      go true e = inl refl
      go false (inl e) = inl (ap (λ (z : List ℕ). c ∷ z) e)
      go false (inr e) = inr (ap (λ (z : List ℕ). c ∷ z) e)

  pub comment_changes_nothing : (l : List ℕ) → line_of (l ++ (b ∷ 0x23 ∷ r)) ≡ line_of l
  unfolding line_of
  comment_changes_nothing l = ⊎_elim (λ e. ap (λ (x : List ℕ). said (tokens_of x)) e)
      (λ e. ap (λ (x : List ℕ). said (tokens_of x)) e ∙ ap said (blank_last (before_comment true l) b is-blank))
      (cut true l)

-- ---- nothing but a comment
abbrev pub blanks : List ℕ → Bool
blanks [] = true
blanks (c ∷ cs) = blank c && blanks cs

before-blanks : (bs r : List ℕ) → blanks bs ≡ true → before_comment true (bs ++ (0x23 ∷ r)) ≡ bs
unfolding before_comment
before-blanks [] r h = refl
before-blanks (c ∷ cs) r h =
    let t = and_parts (blank c) (blanks cs) h in
    let low : c < 0x21 = ltb-true _ _ t.0 in
    rw (ne_eqb c 0x23 (λ z. omega arith), t.0) (ap (λ (x : List ℕ). c ∷ x) (before-blanks cs r t.1))

taken-blanks : (bs : List ℕ) → blanks bs ≡ true → taken_all none bs ≡ none
unfolding taken_all taken ended
taken-blanks [] h = refl
taken-blanks (c ∷ cs) h = let t = and_parts (blank c) (blanks cs) h in rw t.0 (taken-blanks cs t.1)

pub comment_passed : (bs r : List ℕ) → blanks bs ≡ true → line_of (bs ++ (0x23 ∷ r)) ≡ Ok None
unfolding line_of said tokens_of ended
comment_passed bs r h =
    ap (λ (x : List ℕ). said (tokens_of x)) (before-blanks bs r h) ∙ ap (λ (s : Tokens). said (ended s)) (taken-blanks bs h)
