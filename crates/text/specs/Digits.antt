-- Numbers as text, in ASCII: capital hexadecimal digits for ports and bytes, decimal for the header (document 01, "The listing
-- program": "Numbers in the header are decimal; ports have three hex digits, bytes two"). A port of an accepted script is below
-- 1000h; of any other the three low digits are shown. That the digits say the number is proofs/DigitLaws.
use Rattle.std.specs.Prelude.{ℕ, zero, suc, ◌+◌, ◌/◌, ◌%◌, cond, List, [], ◌∷◌, ◌++◌, ltb}

-- `0` is 30h and `A` is 41h
abbrev pub hex_digit : ℕ → ℕ
hex_digit d = cond (ltb d 10) (0x30 + d) (0x37 + d)

-- the last digit of a number
abbrev pub last_digit : ℕ → ℕ
last_digit n = hex_digit (n % 16)

abbrev pub byte_digits : ℕ → List ℕ
byte_digits v = last_digit (v / 16) ∷ last_digit v ∷ []

abbrev pub port_digits : ℕ → List ℕ
port_digits p = last_digit (p / 256) ∷ last_digit (p / 16) ∷ last_digit p ∷ []

-- a number in decimal, with no zero in front, in at most so many places
unfoldable pub decimal_in : ℕ → ℕ → List ℕ
decimal_in zero n = []
decimal_in (suc places) n = cond (ltb n 10) ((0x30 + n) ∷ []) (decimal_in places (n / 10) ++ ((0x30 + n % 10) ∷ []))

-- 20 places hold every number of 64 bits
abbrev pub decimal : ℕ → List ℕ
decimal n = decimal_in 20 n
