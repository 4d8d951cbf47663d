-- The tokens of a line: its words as numbers. What separates words are blanks: the space and every control character, so a tab
-- and the carriage return before a line feed too. A token is a word's characters in base 256, the first one highest, letters as
-- capitals. `XR60` is 58h 52h 36h 30h, 58523630h. As no character of a word is below 21h, two words of up to eight characters
-- have different tokens (`tokens_differ`); a longer word is 1, which no other word is. No form of a line has more than twelve
-- words: of those behind the thirteenth nothing is kept. A place that has no word is 0. Laws are proofs/TokenLaws.
use Rattle.std.specs.Prelude.{ℕ, ◌+◌, ◌-◌, ◌*◌, Bool, cond, List, [], ◌∷◌, ltb, leb, eqb, get_or, set, replicate}
use Prim.Native.String.{String}
use Rattle.text.specs.Ascii.{ascii}
use Rattle.text_tokens.specs.declared.Tokens.{Tokens}

abbrev pub blank : ℕ → Bool
blank c = ltb c 0x21

-- `a` is 61h and `z` is 7Ah; capitals are 20h below
abbrev pub capital : ℕ → ℕ
capital c = cond (ltb c 0x61) c (cond (ltb c 0x7B) (c - 0x20) c)

-- a word with one more character
unfoldable pub grown : ℕ → ℕ → ℕ
grown word c = cond (eqb word 1) 1 (cond (leb 0x100000000000000 word) 1 (256 * word + capital c))

-- no words yet
abbrev pub none : Tokens
none = record { count = 0; begun = 0; at = replicate 13 0 }

-- the word that was begun is at its end
unfoldable pub ended : Tokens → Tokens
ended s =
    cond (eqb s.begun 0) s
    (cond (leb 13 s.count) (record { count = s.count; begun = 0; at = s.at })
    (record { count = s.count + 1; begun = 0; at = set s.at s.count s.begun }))

-- a character more of the line
unfoldable pub taken : Tokens → ℕ → Tokens
taken s c = cond (blank c) (ended s) (record { count = s.count; begun = grown s.begun c; at = s.at })

unfoldable pub taken_all : Tokens → List ℕ → Tokens
taken_all s [] = s
taken_all s (c ∷ cs) = taken_all (taken s c) cs

-- the tokens of a line
unfoldable pub tokens_of : List ℕ → Tokens
tokens_of line = ended (taken_all none line)

-- token k of them, from 0
abbrev pub token_at : Tokens → ℕ → ℕ
token_at w k = get_or w.at k 0

-- the token that is spelled so, in capitals: characters behind a number that was begun
abbrev pub packed : ℕ → List ℕ → ℕ
packed w [] = w
packed w (c ∷ cs) = packed (256 * w + c) cs

abbrev pub token : String → ℕ
token word = packed 0 (ascii word)
