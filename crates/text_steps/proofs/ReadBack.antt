-- A legal step that is written as a line reads back as itself. It has no comment in it. Word by word: a word's characters are
-- none of them blank and all of them capitals already, so a word grows by each of them; a byte's two digits read back as the
-- byte, and a name as its group and index.
use Prim.Native.Nat.{ℕ, ◌+◌, ◌*◌, ◌/◌, ◌%◌, ◌≤◌, ◌<◌}
use native.Mathlib.Omega.{arith}
use mathlib.Core.Bool.{Bool, true, false, cond, ◌&&◌, ◌||◌, false≢true}
use mathlib.Core.Path.{◌≡◌, refl, sym, ap, ◌∙◌}
use mathlib.Core.List.{List, [], ◌∷◌, ◌++◌, append_assoc}
use lib.Dec.{ltb, leb, eqb}
use lib.ListN.{set, replicate}
use borrow.Author.Tests.{lt-ltb, lt-leb, ne_eqb, ltb-true, leb-true, eqb-true}
use Rattle.lists.specs.Scan.{every}
use Rattle.lists.specs.Tab.{Bytes}
use Rattle.lists.proofs.Scan.{every-at}
use Rattle.std.proofs.lemmas.Bool.{and_parts}
use Rattle.text.specs.Digits.{last_digit, byte_digits}
use Rattle.text_tokens.specs.declared.Tokens.{Tokens}
use Rattle.text_tokens.specs.Tokens.{grown, ended, taken, taken_all, tokens_of, packed}
use Rattle.text_tokens.specs.Hex.{digit_value, is_byte, byte_of}
use Rattle.text_tokens.proofs.TokenLaws.{Character, plain-character, reading, token-taken}
use Rattle.script_steps.specs.Step.{names, legal, bytes_of}
use Rattle.script_steps.proofs.Lawful.{names-single, named_group}
use Rattle.script_steps.specs.declared.Step.{Step}
use Rattle.script_steps.specs.declared.Step.TheVariants.{Set, Field, Colour}
use Rattle.text_steps.specs.Written.{letter, name_text, byte_text, step_text}
use Rattle.text_steps.specs.Reading.{group_of, indexed, name_of, set_of, field_of, colour_of, step_of, said, line_of, register_name}
use Rattle.text_steps.proofs.Plain.{digit_range, step_plain}
use Rattle.text_steps.proofs.CommentLaws.{no_comment}
use Rattle.std.specs.Prelude.{Ok, Some}

-- ---- a byte
abbrev pair : ℕ → ℕ
pair v = 256 * last_digit (v / 16) + last_digit v

pair_range : (v : ℕ) → (0x3030 ≤ pair v) × (pair v < 0x4747)
pair_range v = let a = digit_range (v / 16) in let b = digit_range v in (omega arith, omega arith)

abbrev pairs : ℕ → Bool
pairs v = is_byte (pair v) && eqb (byte_of (pair v)) v

all_pairs : every pairs 0 256 ≡ true
unfolding every is_byte byte_of digit_value
all_pairs = refl

module _ (v : ℕ) (byte : v < 256) where
  pair_reads : (is_byte (pair v) ≡ true) × (byte_of (pair v) ≡ v)
  pair_reads =
      let t = and_parts (is_byte (pair v)) (eqb (byte_of (pair v)) v) (every-at pairs 0 256 all_pairs v (omega arith) (omega arith)) in
      (t.0, eqb-true _ _ t.1)

digit_character : (x : ℕ) → Character (last_digit x)
digit_character x = let h = digit_range x in plain-character (last_digit x) (omega arith) (omega arith)

digits_taken : (n : ℕ) (a : List ℕ) (v : ℕ) (r : List ℕ) → taken_all (reading n 0 a) (byte_digits v ++ r) ≡ taken_all (reading n (pair v) a) r
digits_taken n a v r =
    let sum : packed 0 (byte_digits v) ≡ pair v = omega arith in
    token-taken n a (byte_digits v) 0 0 r (digit_character (v / 16), (digit_character v, tt)) (λ z. omega arith) (omega arith) (omega arith)
    ∙ ap (λ (x : ℕ). taken_all (reading n x a) r) sum

-- ---- the end of a word
module _ (n w : ℕ) (a : List ℕ) (some : w ≡ 0 → ⊥) (room : n < 13) where
  word-ends : ended (reading n w a) ≡ reading (n + 1) 0 (set a n w)
  unfolding ended
  word-ends = rw (ne_eqb w 0 some, lt-leb 13 n room)

  space_taken : (r : List ℕ) → taken_all (reading n w a) (0x20 ∷ r) ≡ taken_all (reading (n + 1) 0 (set a n w)) r
  unfolding taken_all taken
  space_taken r = ap (λ (s : Tokens). taken_all s r) word-ends

-- a byte behind the word that stands before it
module _ (n w : ℕ) (a : List ℕ) (some : w ≡ 0 → ⊥) (room : n < 13) where
  byte-taken : (v : ℕ) (r : List ℕ) → taken_all (reading n w a) (byte_text v ++ r) ≡ taken_all (reading (n + 1) (pair v) (set a n w)) r
  byte-taken v r = space_taken n w a some room (byte_digits v ++ r) ∙ digits_taken (n + 1) (set a n w) v r

-- ---- a name
abbrev name_word : ℕ → ℕ → ℕ
name_word g i = cond (eqb g 6) 0x4D5352 (cond (eqb g 7) 0x50414C4D41534B (65536 * (256 * letter g + 0x52) + pair i))

abbrev letters_read : ℕ → Bool
letters_read g = leb 0x3F (letter g) && ltb (letter g) 0x5B && (eqb (group_of (256 * letter g + 0x52)) g || eqb g 6 || eqb g 7)

all_letters : every letters_read 0 9 ≡ true
unfolding every letter group_of
all_letters = refl

module _ (g : ℕ) (group : g < 9) where
  letters_read_lem : letters_read g ≡ true
  letters_read_lem = every-at letters_read 0 9 all_letters g (omega arith) (omega arith)

  letter_range : (0x3F ≤ letter g) × (letter g < 0x5B)
  letter_range =
      let t = and_parts (leb 0x3F (letter g) && ltb (letter g) 0x5B) (eqb (group_of (256 * letter g + 0x52)) g || eqb g 6 || eqb g 7) letters_read_lem in
      let u = and_parts (leb 0x3F (letter g)) (ltb (letter g) 0x5B) t.0 in
      (leb-true _ _ u.0, ltb-true _ _ u.1)

  group_reads : eqb g 6 ≡ false → eqb g 7 ≡ false → group_of (256 * letter g + 0x52) ≡ g
  group_reads x y =
      let t = and_parts (leb 0x3F (letter g) && ltb (letter g) 0x5B) (eqb (group_of (256 * letter g + 0x52)) g || eqb g 6 || eqb g 7) letters_read_lem in
      go (eqb (group_of (256 * letter g + 0x52)) g) refl (rw (x, y) at t.1)
    where
      go : (b : Bool) → eqb (group_of (256 * letter g + 0x52)) g ≡ b → (b || false || false) ≡ true → group_of (256 * letter g + 0x52) ≡ g
      go true e h = eqb-true _ _ e
      go false e h = absurd (false≢true h)

module _ (n : ℕ) (a : List ℕ) (g i : ℕ) (group : g < 9) (r : List ℕ) where
  name_taken : taken_all (reading n 0 a) (name_text g i ++ r) ≡ taken_all (reading n (name_word g i) a) r
  unfolding name_text taken_all taken grown
  name_taken = go (eqb g 6) (eqb g 7)
    where
      word : ℕ
      word = 256 * letter g + 0x52

      indexed-taken : taken_all (reading n 0 a) (letter g ∷ 0x52 ∷ byte_digits i ++ r) ≡ taken_all (reading n (65536 * word + pair i) a) r
      indexed-taken =
          let l = letter_range g group in
          let sum : packed 0 (letter g ∷ 0x52 ∷ byte_digits i) ≡ 65536 * word + pair i = omega arith in
          token-taken n a (letter g ∷ 0x52 ∷ byte_digits i) 0 0 r
          (plain-character (letter g) (omega arith) (omega arith), (plain-character 0x52 (omega arith) (omega arith), (digit_character (i / 16), (digit_character i, tt))))
          (λ z. omega arith)
          (omega arith)
          (omega arith)
          ∙ ap (λ (x : ℕ). taken_all (reading n x a) r) sum

      go : (x y : Bool)
          → taken_all (reading n 0 a)
          (cond x (0x4D ∷ 0x53 ∷ 0x52 ∷ []) (cond y (0x50 ∷ 0x41 ∷ 0x4C ∷ 0x4D ∷ 0x41 ∷ 0x53 ∷ 0x4B ∷ []) (letter g ∷ 0x52 ∷ byte_digits i)) ++ r)
          ≡ taken_all (reading n (cond x 0x4D5352 (cond y 0x50414C4D41534B (65536 * word + pair i))) a) r
      go true y = refl
      go false true = refl
      go false false = indexed-taken

-- a name that a step may have: MSR and PALMASK have the index 0
module _ (g i : ℕ) (named : names g i ≡ true) where
  no_index_lem : 6 ≤ g → g < 8 → i ≡ 0
  no_index_lem low high = eqb-true _ _ (sym (names-single g i low high) ∙ named)

  name_reads : i < 256 → name_of (name_word g i) ≡ Some (register_name g i)
  unfolding name_of indexed
  name_reads byte = go (eqb g 6) refl (eqb g 7) refl
    where
      go : (x : Bool) → eqb g 6 ≡ x → (y : Bool) → eqb g 7 ≡ y
          → name_of (cond x 0x4D5352 (cond y 0x50414C4D41534B (65536 * (256 * letter g + 0x52) + pair i))) ≡ Some (register_name g i)
      go true e y f =
          let is : g ≡ 6 = eqb-true _ _ e in
          let none : i ≡ 0 = no_index_lem (omega arith) (omega arith) in
          rw (is, none)
      go false e true f =
          let is : g ≡ 7 = eqb-true _ _ f in
          let none : i ≡ 0 = no_index_lem (omega arith) (omega arith) in
          rw (is, none)
      go false e false f =
          let l = letter_range g (named_group g i named) in
          let p = pair_range i in
          let reads = pair_reads i byte in
          let ls : ℕ = 256 * letter g + 0x52 in
          let w : ℕ = 65536 * ls + pair i in
          let m : w ≡ 0x4D5352 → ⊥ = λ z. omega arith in
          let k : w ≡ 0x50414C4D41534B → ⊥ = λ z. omega arith in
          let high : w / 65536 ≡ ls = omega arith in
          let low : w % 65536 ≡ pair i = omega arith in
          rw (ne_eqb w 0x4D5352 m, ne_eqb w 0x50414C4D41534B k, high, low, reads.0, reads.1, group_reads g (named_group g i named) e f, lt-ltb g 9 (named_group g i named))

-- ---- a step
some_pair : (v : ℕ) → pair v ≡ 0 → ⊥
some_pair v z = omega (arith, (pair_range v).0)

module _ (g i : ℕ) (group : g < 9) where
  some_name : name_word g i ≡ 0 → ⊥
  some_name = go (eqb g 6) (eqb g 7)
    where
      go : (x y : Bool) → cond x 0x4D5352 (cond y 0x50414C4D41534B (65536 * (256 * letter g + 0x52) + pair i)) ≡ 0 → ⊥
      go true y z = omega arith
      go false true z = omega arith
      go false false z = omega arith

  words-set : (v : ℕ) → tokens_of (step_text (Set g i v)) ≡ reading 3 0 (0x534554 ∷ name_word g i ∷ pair v ∷ replicate 10 0)
  unfolding tokens_of step_text taken_all taken grown ended
  words-set v =
      let a : List ℕ = 0x534554 ∷ replicate 12 0 in
      ap ended (name_taken 1 a g i group (byte_text v) ∙ byte-taken 1 (name_word g i) a some_name (omega arith) v [])
      ∙ word-ends 2 (pair v) (set a 1 (name_word g i)) (some_pair v) (omega arith)

  words_field : (v m : ℕ) → tokens_of (step_text (Field g i v m)) ≡ reading 4 0 (0x4649454C44 ∷ name_word g i ∷ pair m ∷ pair v ∷ replicate 9 0)
  unfolding tokens_of step_text taken_all taken grown ended
  words_field v m =
      let a : List ℕ = 0x4649454C44 ∷ replicate 12 0 in
      let b : List ℕ = set a 1 (name_word g i) in
      ap (λ (l : List ℕ). ended (taken_all (reading 1 0 a) l)) (append_assoc (name_text g i) (byte_text m) (byte_text v))
      ∙ ap ended
      (name_taken 1 a g i group (byte_text m ++ byte_text v)
      ∙ byte-taken 1 (name_word g i) a some_name (omega arith) m (byte_text v)
      ∙ byte-taken 2 (pair m) b (some_pair m) (omega arith) v [])
      ∙ word-ends 3 (pair v) (set b 2 (pair m)) (some_pair v) (omega arith)

words_colour : (e r g b : ℕ) → tokens_of (step_text (Colour e r g b)) ≡ reading 5 0 (0x434F4C4F5552 ∷ pair e ∷ pair r ∷ pair g ∷ pair b ∷ replicate 8 0)
unfolding tokens_of step_text taken_all taken grown ended
words_colour e r g b =
    let a : List ℕ = replicate 13 0 in
    let c : List ℕ = set a 0 0x434F4C4F5552 in
    let d : List ℕ = set c 1 (pair e) in
    let f : List ℕ = set d 2 (pair r) in
    ap ended
    (byte-taken 0 0x434F4C4F5552 a (λ z. omega arith) (omega arith) e (byte_text r ++ byte_text g ++ byte_text b)
    ∙ byte-taken 1 (pair e) c (some_pair e) (omega arith) r (byte_text g ++ byte_text b)
    ∙ byte-taken 2 (pair r) d (some_pair r) (omega arith) g (byte_text b)
    ∙ byte-taken 3 (pair g) f (some_pair g) (omega arith) b [])
    ∙ word-ends 4 (pair b) (set f 3 (pair g)) (some_pair b) (omega arith)

-- a legal step's words say the step
words_say : (s : Step) → legal s ≡ true → Bytes (bytes_of s) → said (tokens_of (step_text s)) ≡ Ok (Some s)
unfolding step_text said step_of set_of field_of colour_of legal bytes_of
words_say (Set g i v) ok bytes =
    let p = pair_reads v (bytes 3) in
    ap said (words-set g i (named_group g i ok) v) ∙ rw (name_reads g i ok (bytes 2), p.0, p.1)
words_say (Field g i v m) ok bytes =
    let t = and_parts _ _ ok in
    let p = pair_reads v (bytes 3) in
    let q = pair_reads m (bytes 4) in
    ap said (words_field g i (named_group g i t.0) v m) ∙ rw (name_reads g i t.0 (bytes 2), p.0, p.1, q.0, q.1)
words_say (Colour e r g b) ok bytes =
    let p = pair_reads e (bytes 1) in
    let q = pair_reads r (bytes 2) in
    let x = pair_reads g (bytes 3) in
    let y = pair_reads b (bytes 4) in
    ap said (words_colour e r g b) ∙ rw (p.0, p.1, q.0, q.1, x.0, x.1, y.0, y.1)

-- a legal step of bytes, written, reads back
pub reads_back : (s : Step) → legal s ≡ true → Bytes (bytes_of s) → line_of (step_text s) ≡ Ok (Some s)
unfolding line_of
reads_back s ok bytes = ap (λ (l : List ℕ). said (tokens_of l)) (no_comment true (step_text s) (step_plain s ok)) ∙ words_say s ok bytes
