-- A block of a script file, 512 bytes: "Bytes 0-1 block number from 0; 2 steps here; 3 is 1 in the last
-- block, else 0; 4-5 zero; 6-509 places for 84 steps of six bytes; 510-511 check, such that all 256 words
-- sum to 1 modulo 65,536." (document 01, Scripts; number 6). The content is apart from the number and the
-- check. The laws of the sum and of the check are in proofs/Sum and proofs/Check.
use Rattle.std.specs.Prelude.{ℕ, ◌+◌, ◌-◌, ◌*◌, ◌/◌, ◌%◌, List, [], ◌∷◌, ◌++◌, Bool, cond, ◌&&◌, length, get_or, leb, eqb}
use Rattle.lists.specs.Scan.{every}

-- "Words are little-endian."
abbrev pub word : List ℕ → ℕ → ℕ
word b p = get_or b p 0 + 256 * get_or b (p + 1) 0

-- the sum of the words of a list
unfoldable pub word_sum : List ℕ → ℕ
word_sum [] = 0
word_sum (x ∷ []) = 0
word_sum (lo ∷ hi ∷ rest) = lo + 256 * hi + word_sum rest

abbrev pub check_legal : List ℕ → Bool
check_legal b = eqb (word_sum b % 65536) 1

-- the check of a block whose other 510 bytes are b, and the block with it
abbrev pub check_word : List ℕ → ℕ
check_word b = (65537 - word_sum b % 65536) % 65536

abbrev pub with_check : List ℕ → List ℕ
with_check b = b ++ (check_word b % 256 ∷ check_word b / 256 ∷ [])

-- byte 3
abbrev pub last_mark : Bool → ℕ
last_mark last = cond last 1 0

-- "Every block but the last has 84 steps; the last has 1 to 84."
abbrev pub count_legal : ℕ → Bool → Bool
count_legal m last = cond last (leb 1 m && leb m 84) (eqb m 84)

-- "Unused places are zero."
abbrev pub unused_zero : List ℕ → ℕ → Bool
unused_zero b m = every (λ p. eqb (get_or b p 0) 0) (6 + 6 * m) (510 - (6 + 6 * m))

-- what stands between the number and the check
unfoldable pub content_legal : List ℕ → Bool → Bool
content_legal b last =
    eqb (get_or b 3 0) (last_mark last)
    && eqb (get_or b 4 0) 0
    && eqb (get_or b 5 0) 0
    && count_legal (get_or b 2 0) last
    && unused_zero b (get_or b 2 0)

-- block k of a file, the last of it or not
unfoldable pub block_legal : List ℕ → ℕ → Bool → Bool
block_legal b k last = eqb (length b) 512 && eqb (word b 0) k && content_legal b last && check_legal b
