-- Laws of words: one character after another from a place on; a line that is taken in two parts; a blank at a line's end changes
-- nothing (`blank_last`); a word's number is its characters in base 256 (`token-taken`), so that different words of up to eight
-- characters have different numbers (`tokens_differ`).
use Prim.Native.Nat.{ℕ, suc, ◌+◌, ◌-◌, ◌*◌, ◌^◌, ◌<◌, ◌≤◌}
use native.Mathlib.Numerals.{add-one}
use native.Mathlib.Nat.{pow-succ'}
use native.Mathlib.Omega.{arith}
use native.Mathlib.Decide.{ℕ_discrete, dec_lt}
use mathlib.Core.Bool.{Bool, true, false, cond}
use mathlib.Core.Path.{◌≡◌, refl, sym, ap, ◌∙◌}
use mathlib.Core.List.{List, [], ◌∷◌, ◌++◌}
use lib.ListN.{length, get_or, set, drop, drop_of_length-le}
use lib.Seq.{drop-cons}
use lib.Dec.{ltb, leb, eqb}
use borrow.Author.Tests.{lt-ltb, le-ltb, lt-leb, leb-true, ltb-true, ltb-false, ne_eqb}
use Rattle.lists.specs.Scan.{every}
use Rattle.lists.proofs.Scan.{every-at}
use Rattle.text_tokens.specs.Tokens.{blank, capital, grown, none, ended, taken, taken_all, tokens_of, packed}
use Rattle.text_tokens.specs.declared.Tokens.{Tokens}

pub taken-append : (s : Tokens) (x y : List ℕ) → taken_all s (x ++ y) ≡ taken_all (taken_all s x) y
unfolding taken_all
taken-append s [] y = refl
taken-append s (c ∷ cs) y = taken-append (taken s c) cs y

module _ (s : Tokens) (l : List ℕ) (i : ℕ) where
  pub taken_next : i < length l → taken_all (taken s (get_or l i 0)) (drop (i + 1) l) ≡ taken_all s (drop i l)
  unfolding taken_all
  taken_next h = rw (add-one i, drop-cons l i 0 h)

  pub taken_end : length l ≤ i → taken_all s (drop i l) ≡ s
  unfolding taken_all
  taken_end h = rw (drop_of_length-le l {i = i} h)

-- ---- a blank at the end
ended_twice : (s : Tokens) → ended (ended s) ≡ ended s
unfolding ended
ended_twice s = go (eqb s.begun 0) refl (leb 13 s.count)
  where
    go : (a : Bool) → eqb s.begun 0 ≡ a → (b : Bool)
        → ended (cond a s (cond b (record { count = s.count; begun = 0; at = s.at }) (record { count = s.count + 1; begun = 0; at = set s.at s.count s.begun })))
        ≡ cond a s (cond b (record { count = s.count; begun = 0; at = s.at }) (record { count = s.count + 1; begun = 0; at = set s.at s.count s.begun }))
    go true e b = rw e
    go false e true = refl
    go false e false = refl

pub blank_last : (line : List ℕ) (c : ℕ) → blank c ≡ true → tokens_of (line ++ (c ∷ [])) ≡ tokens_of line
unfolding tokens_of taken_all taken
blank_last line c h = ap ended (taken-append none line (c ∷ [])) ∙ rw h (ended_twice (taken_all none line))

-- ---- a word's number
-- a character of a word: a byte that is no blank and no small letter
abbrev pub Character : ℕ → Type 0
Character c = (0x21 ≤ c) × (c < 256) × (capital c ≡ c)

pub plain-character : (c : ℕ) → 0x21 ≤ c → c < 0x61 → Character c
plain-character c h k = (h, omega arith, rw (lt-ltb c 0x61 k))

-- every byte that is no blank is one as a capital
pub capital-character : (c : ℕ) → 0x21 ≤ c → c < 256 → Character (capital c)
capital-character c h k = go (ltb c 0x61) refl (ltb c 0x7B) refl
  where
    go : (x : Bool) → ltb c 0x61 ≡ x → (y : Bool) → ltb c 0x7B ≡ y → Character (cond x c (cond y (c - 0x20) c))
    go true e y f = plain-character c h (ltb-true _ _ e)
    go false e true f =
        let low : 0x61 ≤ c = ltb-false _ _ e in
        let high : c < 0x7B = ltb-true _ _ f in
        plain-character (c - 0x20) (omega arith) (omega arith)
    go false e false f = (h, k, rw (e, f))

abbrev pub Characters : List ℕ → Type 0
Characters [] = Unit {0}
Characters (c ∷ cs) = Character c × Characters cs

-- a line that is being read, with so many words and the one that was begun
abbrev pub reading : ℕ → ℕ → List ℕ → Tokens
reading n w a = record { count = n; begun = w; at = a }

abbrev power_small : ℕ → Bool
power_small k = leb (256 ^ k) 0x100000000000000

all_small : every power_small 0 8 ≡ true
unfolding every
all_small = refl

module _ (n : ℕ) (a : List ℕ) where
  pub character : (w c : ℕ) → Character c → (w ≡ 1 → ⊥) → w < 0x100000000000000 → taken (reading n w a) c ≡ reading n (256 * w + c) a
  unfolding taken grown
  character w c h p q = rw (le-ltb c 0x21 h.0, ne_eqb w 1 p, lt-leb 0x100000000000000 w q, h.2)

  -- k characters are below 256 ^ k
  pub token-taken : (x : List ℕ) (w k : ℕ) (r : List ℕ) → Characters x → (w ≡ 1 → ⊥) → w < 256 ^ k → k + length x ≤ 8
      → taken_all (reading n w a) (x ++ r) ≡ taken_all (reading n (packed w x) a) r
  unfolding taken_all
  token-taken [] w k r h p q e = refl
  token-taken (c ∷ cs) w k r h p q e =
      let small : 256 ^ k ≤ 0x100000000000000 = leb-true (256 ^ k) 0x100000000000000 (every-at power_small 0 8 all_small k (omega arith) (omega arith)) in
      let more : 256 ^ suc k ≡ 256 * 256 ^ k = pow-succ' 256 k in
      ap (λ (s : Tokens). taken_all s (cs ++ r)) (character w c h.0 p (omega arith))
      ∙ token-taken cs (256 * w + c) (suc k) r h.1 (λ z. omega arith) (omega arith) (omega arith)

-- ---- different words have different numbers
packed-same : (x y : List ℕ) (v w : ℕ) → Characters x → Characters y → length x ≡ length y → packed v x ≡ packed w y → (v ≡ w) × (x ≡ y)
packed-same [] [] v w h k l e = (e, refl)
packed-same [] (d ∷ ds) v w h k l e = absurd (omega arith)
packed-same (c ∷ cs) [] v w h k l e = absurd (omega arith)
packed-same (c ∷ cs) (d ∷ ds) v w h k l e =
    let rest = packed-same cs ds (256 * v + c) (256 * w + d) h.1 k.1 (omega arith) e in
    let front : 256 * v + c ≡ 256 * w + d = rest.0 in
    let first : c ≡ d = omega arith in
    let tail : cs ≡ ds = rest.1 in
    (omega arith, cc)

-- a longer word has a larger number, whatever stands before it
longer : (x y : List ℕ) (v : ℕ) → Characters x → Characters y → length y < length x → packed v x ≡ packed 0 y → ⊥
longer [] y v h k l e = omega arith
longer (c ∷ cs) y v h k l e = go (ℕ_discrete (length cs) (length y)) (longer cs y (256 * v + c) h.1 k)
  where
    go : Dec (length cs ≡ length y) → (length y < length cs → packed (256 * v + c) cs ≡ packed 0 y → ⊥) → ⊥
    go (yes s) rest =
        let none : 256 * v + c ≡ 0 = (packed-same cs y (256 * v + c) 0 h.1 k s e).0 in
        omega arith
    go (no s) rest = rest (omega arith) e

pub tokens_differ : (x y : List ℕ) → Characters x → Characters y → packed 0 x ≡ packed 0 y → x ≡ y
tokens_differ x y h k e = go (ℕ_discrete (length x) (length y)) (dec_lt (length y) (length x))
  where
    go : Dec (length x ≡ length y) → Dec (length y < length x) → x ≡ y
    go (yes s) d = (packed-same x y 0 0 h k s e).1
    go (no s) (yes l) = absurd (longer x y 0 h k l e)
    go (no s) (no l) = absurd (longer y x 0 k h (omega arith) (sym e))
