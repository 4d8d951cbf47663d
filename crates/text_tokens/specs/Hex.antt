-- Words that are hexadecimal numbers, in either case since letters are capitals by now: a byte of exactly two digits, and a
-- number of one to eight. Laws are proofs/HexLaws.
use Rattle.std.specs.Prelude.{ℕ, zero, suc, ◌+◌, ◌-◌, ◌*◌, ◌/◌, ◌%◌, Bool, cond, ◌&&◌, ◌||◌, ltb, eqb, Option, Some, None}

-- the value of a digit, `0` to `9` and `A` to `F`, and 16 for any other character
unfoldable pub digit_value : ℕ → ℕ
digit_value c =
    cond (ltb c 0x30) 16
    (cond (ltb c 0x3A) (c - 0x30)
    (cond (ltb c 0x41) 16
    (cond (ltb c 0x47) (c - 0x37) 16)))

abbrev pub is_digit : ℕ → Bool
is_digit c = ltb (digit_value c) 16

-- a word of two digits, and its value
unfoldable pub is_byte : ℕ → Bool
is_byte word = ltb word 65536 && is_digit (word / 256 % 256) && is_digit (word % 256)

unfoldable pub byte_of : ℕ → ℕ
byte_of word = (16 * digit_value (word / 256 % 256) + digit_value (word % 256)) % 256

-- at most so many characters, all of them digits; and their value, which eight digits keep below 2 ^ 32
unfoldable pub all_digits : ℕ → ℕ → Bool
all_digits zero word = eqb word 0
all_digits (suc n) word = eqb word 0 || (is_digit (word % 256) && all_digits n (word / 256))

unfoldable pub value_in : ℕ → ℕ → ℕ
value_in zero word = 0
value_in (suc n) word = cond (eqb word 0) 0 ((16 * value_in n (word / 256) + digit_value (word % 256)) % 4294967296)

-- a word read as a number
unfoldable pub number_of : ℕ → Option ℕ
number_of word = cond (eqb word 0) None (cond (all_digits 8 word) (Some (value_in 8 word)) None)
