-- Every character of a legal step's text is a space or stands above `#`: it has no line feed and no comment in it.
use Prim.Native.Nat.{ℕ, ◌+◌, ◌/◌, ◌%◌, ◌≤◌, ◌<◌}
use native.Mathlib.Omega.{arith}
use mathlib.Core.Bool.{Bool, true, false, cond, ◌&&◌, ◌||◌}
use mathlib.Core.Path.{◌≡◌, refl}
use mathlib.Core.List.{List, [], ◌∷◌, ◌++◌}
use lib.Dec.{ltb, eqb}
use borrow.Author.Tests.{lt-ltb, ltb-true, eqb-true}
use Rattle.lists.specs.Scan.{every}
use Rattle.lists.proofs.Scan.{every-at}
use Rattle.std.proofs.lemmas.Bool.{and_parts}
use Rattle.text.specs.Digits.{last_digit, byte_digits}
use Rattle.script_steps.specs.Step.{legal}
use Rattle.script_steps.proofs.Lawful.{named_group}
use Rattle.script_steps.specs.declared.Step.{Step}
use Rattle.script_steps.specs.declared.Step.TheVariants.{Set, Field, Colour}
use Rattle.text_steps.specs.Written.{letter, name_text, byte_text, step_text}

abbrev pub plain_character : ℕ → Bool
plain_character c = ltb 0x23 c || eqb c 0x20

abbrev pub plain : List ℕ → Bool
plain [] = true
plain (c ∷ cs) = plain_character c && plain cs

-- such a character is no line feed and no `#`
pub plain_other : (c : ℕ) → plain_character c ≡ true → (c ≡ 0x0A → ⊥) × (c ≡ 0x23 → ⊥)
plain_other c h = go (ltb 0x23 c) refl h
  where
    go : (b : Bool) → ltb 0x23 c ≡ b → (b || eqb c 0x20) ≡ true → (c ≡ 0x0A → ⊥) × (c ≡ 0x23 → ⊥)
    go true e t = let k : 0x23 < c = ltb-true _ _ e in (λ z. omega arith, λ z. omega arith)
    go false e t = let k : c ≡ 0x20 = eqb-true _ _ t in (λ z. omega arith, λ z. omega arith)

plain-append : (x y : List ℕ) → plain x ≡ true → plain y ≡ true → plain (x ++ y) ≡ true
plain-append [] y h k = k
plain-append (c ∷ cs) y h k = let t = and_parts (plain_character c) (plain cs) h in rw t.0 (plain-append cs y t.1 k)

-- ---- digits and letters
pub digit_range : (x : ℕ) → (0x30 ≤ last_digit x) × (last_digit x < 0x47)
digit_range x = go (x % 16) (omega arith) (ltb (x % 16) 10) refl
  where
    go : (d : ℕ) → d < 16 → (b : Bool) → ltb d 10 ≡ b → (0x30 ≤ cond b (0x30 + d) (0x37 + d)) × (cond b (0x30 + d) (0x37 + d) < 0x47)
    go d h true e = let k : d < 10 = ltb-true _ _ e in (omega arith, omega arith)
    go d h false e = (omega arith, omega arith)

digit_plain : (x : ℕ) → plain_character (last_digit x) ≡ true
digit_plain x = let h = (digit_range x).0 in rw (lt-ltb 0x23 (last_digit x) (omega arith))

all_letters : every (λ g. plain_character (letter g)) 0 9 ≡ true
unfolding every letter
all_letters = refl

-- ---- a step's text
byte-plain : (v : ℕ) → plain (byte_text v) ≡ true
byte-plain v = rw (digit_plain (v / 16), digit_plain v)

name_plain : (g i : ℕ) → g < 9 → plain (name_text g i) ≡ true
unfolding name_text
name_plain g i h = go (eqb g 6) (eqb g 7)
  where
    go : (a b : Bool) → plain (cond a (0x4D ∷ 0x53 ∷ 0x52 ∷ []) (cond b (0x50 ∷ 0x41 ∷ 0x4C ∷ 0x4D ∷ 0x41 ∷ 0x53 ∷ 0x4B ∷ []) (letter g ∷ 0x52 ∷ byte_digits i))) ≡ true
    go true b = refl
    go false true = refl
    go false false = rw (every-at (λ k. plain_character (letter k)) 0 9 all_letters g (omega arith) (omega arith), digit_plain (i / 16), digit_plain i)

pub step_plain : (s : Step) → legal s ≡ true → plain (step_text s) ≡ true
unfolding step_text legal
step_plain (Set g i v) ok = plain-append (name_text g i) (byte_text v) (name_plain g i (named_group g i ok)) (byte-plain v)
step_plain (Field g i v m) ok =
    let t = and_parts _ _ ok in
    plain-append (name_text g i ++ byte_text m) (byte_text v)
    (plain-append (name_text g i) (byte_text m) (name_plain g i (named_group g i t.0)) (byte-plain m))
    (byte-plain v)
step_plain (Colour e r g b) ok = rw (
  digit_plain (e / 16),
  digit_plain e,
  digit_plain (r / 16),
  digit_plain r,
  digit_plain (g / 16),
  digit_plain g,
  digit_plain (b / 16),
  digit_plain b,
)
