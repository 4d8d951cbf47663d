-- The lent memory of document 01, "Video memory and block transfers", and a linear read and write of one byte of it.
-- A memory is the list of its bytes. The answers' numbers and values are those of "Numbers returned"; 3 goes before 4.
-- Transfers are in the crates blit_frame and blit.
use Rattle.std.specs.Prelude.{ℕ, ◌%◌, Bool, cond, ◌&&◌, List, length, get_or, set, leb, ltb, eqb, Result, Ok, Err}
use Rattle.memory.specs.declared.Refusal.{Refusal}
use Rattle.memory.specs.declared.Refusal.TheVariants.{Length, Range, Outside}

-- ---- numbers of the answers

-- 3: memory length not allowed; 5: a transfer number out of its range; 4: a byte used lies outside memory
abbrev pub refusal_number : Refusal → ℕ
refusal_number Length = 3
refusal_number Range = 5
refusal_number Outside = 4

abbrev pub answer_number : Result (Unit {0}) Refusal → ℕ
answer_number (Ok tt) = 0
answer_number (Err why) = refusal_number why

abbrev pub read_number : Result ℕ Refusal → ℕ
read_number (Ok b) = 0
read_number (Err why) = refusal_number why

-- a refused read gives FFh
abbrev pub read_value : Result ℕ Refusal → ℕ
read_value (Ok b) = b
read_value (Err why) = 0xFF

-- ---- the memory

-- any multiple of 4 from 4,096 to the part's 2,097,152 bytes (HOUSE)
abbrev pub length_allowed : ℕ → Bool
length_allowed n = leb 4096 n && leb n 2097152 && eqb (n % 4) 0

-- ---- one byte

unfoldable pub byte_read : List ℕ → ℕ → Result ℕ Refusal
byte_read m at = cond (length_allowed (length m)) (cond (ltb at (length m)) (Ok (get_or m at 0)) (Err Outside)) (Err Length)

unfoldable pub write_answer : List ℕ → ℕ → Result (Unit {0}) Refusal
write_answer m at = cond (length_allowed (length m)) (cond (ltb at (length m)) (Ok tt) (Err Outside)) (Err Length)

-- a refusal leaves the memory as it was
unfoldable pub byte_written : List ℕ → ℕ → ℕ → List ℕ
byte_written m at v = cond (length_allowed (length m) && ltb at (length m)) (set m at v) m

-- ---- the same in document 01's numbers: that of a read or a write in a memory of n bytes, and the byte that a read gives

unfoldable pub byte_number : ℕ → ℕ → ℕ
byte_number n at = cond (length_allowed n) (cond (ltb at n) 0 4) 3

unfoldable pub byte_value : List ℕ → ℕ → ℕ
byte_value m at = cond (length_allowed (length m) && ltb at (length m)) (get_or m at 0) 0xFF
