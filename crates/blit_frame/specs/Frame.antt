-- The places of a block transfer's bytes, and when it is done: document 01, "Video memory and block transfers", and 3, 5 and 4 of
-- "Numbers returned". What is done to the bytes is crate blit's; the raster code is the crate blit_raster's.
-- An address that runs below 0 stays a natural number: what is added to it and what is taken away are kept apart.
use Rattle.std.specs.Prelude.{ℕ, ◌+◌, ◌-◌, ◌*◌, ◌%◌, Bool, cond, not, ◌&&◌, ◌||◌, leb, ltb, eqb, Result, Ok, Err}
use Rattle.lists.specs.Scan.{every}
use Rattle.blit_raster.specs.Raster.{uses_source, uses_pattern}
use Rattle.memory.specs.Memory.{length_allowed}
use Rattle.memory.specs.declared.Refusal.TheVariants.{Length, Range, Outside}
use Rattle.blit_frame.specs.declared.Area.{Area}
use Rattle.blit_frame.specs.declared.Transfer.{Transfer}
use Rattle.memory.specs.declared.Refusal.{Refusal}

-- ---- where the bytes lie

-- Byte c of line r is at the area's address plus `ahead` minus `behind`: c, and r times the span, each by its direction.
abbrev pub ahead : Transfer → Area → ℕ → ℕ → ℕ
ahead t a r c = cond t.leftward 0 c + cond t.upward 0 (r * a.span)

abbrev pub behind : Transfer → Area → ℕ → ℕ → ℕ
behind t a r c = cond t.leftward c 0 + cond t.upward (r * a.span) 0

abbrev pub place : Transfer → Area → ℕ → ℕ → ℕ
place t a r c = a.address + ahead t a r c - behind t a r c

-- The pattern byte is at the pattern address + 8 times (pattern row plus or minus r, modulo 8) + (destination byte's address
-- modulo 8). Minus r is plus 7 r, modulo 8.
abbrev pub pattern_line : Transfer → ℕ → ℕ
pattern_line t r = t.pattern_address + 8 * ((t.pattern_row + cond t.upward (7 * r) r) % 8)

abbrev pub pattern_place : Transfer → ℕ → ℕ → ℕ
pattern_place t r c = pattern_line t r + place t t.destination r c % 8

-- ---- when it is done

-- number 5 is for a transfer number out of its range; those of an operand that is not looked at may be anything
unfoldable pub in_range : Transfer → Bool
in_range t =
    leb 1 t.width && leb t.width 8191 && leb 1 t.height && leb t.height 8191 && leb t.destination.span 8191
    && (not (uses_source t.code) || leb t.source.span 8191)
    && (not (uses_pattern t.code) || (leb t.pattern_row 7 && eqb (t.pattern_address % 64) 0))

-- the test holds at each byte c of each line r
abbrev pub every_byte : Transfer → (ℕ → ℕ → Bool) → Bool
every_byte t f = every (λ r. every (f r) 0 t.width) 0 t.height

-- byte c of line r lies in the n bytes of memory
abbrev pub within : ℕ → Transfer → Area → ℕ → ℕ → Bool
within n t a r c = leb (behind t a r c) (a.address + ahead t a r c) && ltb (place t a r c) n

-- number 4 is for a byte used that lies outside the n bytes of memory
unfoldable pub is_in_memory : ℕ → Transfer → Bool
is_in_memory n t =
    every_byte t (within n t t.destination)
    && (not (uses_source t.code) || every_byte t (within n t t.source))
    && (not (uses_pattern t.code) || every_byte t (λ r c. ltb (pattern_place t r c) n))

abbrev pub accepted : ℕ → Transfer → Bool
accepted n t = length_allowed n && in_range t && is_in_memory n t

-- what a transfer answers in a memory of n bytes: 3 goes before 5, and 5 before 4
unfoldable pub judged : ℕ → Transfer → Result (Unit {0}) Refusal
judged n t = cond (length_allowed n) (cond (in_range t) (cond (is_in_memory n t) (Ok tt) (Err Outside)) (Err Range)) (Err Length)

-- the same in document 01's numbers
unfoldable pub judged_number : ℕ → Transfer → ℕ
judged_number n t = cond (length_allowed n) (cond (in_range t) (cond (is_in_memory n t) 0 4) 5) 3
