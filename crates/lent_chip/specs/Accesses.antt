-- What a call on lent bytes leaves. Bytes of another length than a state's are refused, and none of them changes; bytes of the
-- right length hold afterwards the chip that crate `chip`'s definition gives from the chip that they held.
use Rattle.std.specs.Prelude.{◌≡◌, ℕ, ◌/◌, ◌%◌, Bool, cond, List, length, ◌==◌, ◌≢◌}
use Rattle.chip.specs.Access.{Seen, Wrote, answer_number}
use Rattle.chip.specs.Differ.{changes}
use Rattle.chip.specs.State.{Chip}
use Rattle.lent_chip.specs.Layout.{whole, view, spare, Holds}

-- whether bytes are a state
abbrev pub is_state : List ℕ → Bool
is_state l = length l == whole

-- what a call leaves of the bytes l, where a state is to hold c with these spare bits. It decides m: law `left_decides`
pub record Left (l : List ℕ) (c : Chip) (bits : ℕ) (m : List ℕ) : Type 0 where
  pub held : length l ≡ whole → Holds m c bits
  pub kept : (length l ≢ whole) → m ≡ l

-- what a write answers (document 02, P6): its number, 1 where a register or a colour differs after it and 0 where none does, and
-- the register's byte before and after it
pub record Told : Type 0 where
  pub number : ℕ
  pub changed : ℕ
  pub before : ℕ
  pub after : ℕ

abbrev pub told_of : Chip → Wrote → Told
told_of c w = record { number = answer_number w.answer; changed = changes c w.chip; before = w.before; after = w.after }

-- the same as one number: bits 0 to 7 are the byte after, 8 to 15 the byte before, 16 to 23 are 0, 24 to 31 the number, which is
-- what a C program gets; and above these 1 where something differs though the two bytes are the same, which is a colour. So a
-- data write compares nothing. It decides r: law `packed_decides`; and it tells whether something differs: law `packed-changed`
pub record Packed (r : ℕ) (t : Told) : Type 0 where
  pub above : r / 4294967296 ≡ cond (t.before == t.after) t.changed 0
  pub number : r / 16777216 % 256 ≡ t.number
  pub between : r / 65536 % 256 ≡ 0
  pub before : r / 256 % 256 ≡ t.before
  pub after : r % 256 ≡ t.after

-- an access on a state: what is left of the bytes l is what it did, and it answers by one number, a write's as above, a read's
-- the number and the byte
pub record WroteIn (l : List ℕ) (w : Wrote) (m : List ℕ) (r : ℕ) : Type 0 where
  pub holds : Holds m w.chip (spare l)
  pub answer : Packed r (told_of (view l) w)

pub record ReadIn (l : List ℕ) (s : Seen) (m : List ℕ) (r : ℕ) : Type 0 where
  pub holds : Holds m s.chip (spare l)
  pub number : r / 256 ≡ answer_number s.answer
  pub value : r % 256 ≡ s.value
