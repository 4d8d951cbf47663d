-- What a request does to the bench and to the store, and what it replies. The bench is a chip, the number of bytes that are
-- lent, and whether the end was asked for. The memory is the first bytes of the store, so many as are lent, or all of it
-- where it is shorter. Only `Lend`, `Write` and `Block` change the store, and no byte behind the memory. The numbers are
-- document 01's, "Numbers returned"; what an access to a port and an access to memory do is said in the crates chip, memory,
-- blit_frame and blit.
use Rattle.std.specs.Prelude.{ℕ, Bool, true, cond, ◌&&◌, List, ◌++◌, ltb, leb, length, take, drop, replicate}
use Rattle.chip.specs.State.{Chip, named}
use Rattle.chip.specs.Reset.{reset}
use Rattle.chip.specs.Palette.{shown}
use Rattle.chip.specs.Access.{Seen, Wrote, answer_number, port_written, port_read}
use Rattle.chip.specs.declared.Rgb.{Rgb}
use Rattle.memory.specs.Memory.{length_allowed, byte_number, byte_value, byte_written}
use Rattle.blit_frame.specs.Frame.{judged_number}
use Rattle.blit.specs.Transfer.{transferred}
use Rattle.workbench_requests.specs.declared.Request.{Request}
use Rattle.workbench_requests.specs.declared.Request.TheVariants.{Reset, Out, In, Pixel, Lend, Read, Write, Block, Dump, Help, Quit, Pass, Unknown}
use Rattle.workbench_replies.specs.declared.Reply.{Reply}
use Rattle.workbench_replies.specs.declared.Reply.TheVariants.{Number, Byte, Told, Colour, Registers, Requests, Nothing, Unknown as NoForm}

-- ---- the bench

pub record Bench : Type 0 where
  pub chip : Chip
  pub lent : ℕ
  pub ended : Bool

-- the bench after a request, and the reply
pub record Acted : Type 0 where
  pub bench : Bench
  pub reply : Reply

abbrev pub with_chip : Bench → Chip → Bench
with_chip b c = record { chip = c; lent = b.lent; ended = b.ended }

abbrev pub with_lent : Bench → ℕ → Bench
with_lent b n = record { chip = b.chip; lent = n; ended = b.ended }

-- the end was asked for: no line behind it is answered (Lines)
abbrev pub with_end : Bench → Bench
with_end b = record { chip = b.chip; lent = b.lent; ended = true }

abbrev pub replied : Bench → Reply → Acted
replied b r = record { bench = b; reply = r }

-- ---- the store

-- the memory, and the store with other bytes for it
abbrev pub memory : ℕ → List ℕ → List ℕ
memory lent store = take lent store

abbrev pub with_memory : ℕ → List ℕ → List ℕ → List ℕ
with_memory lent store m = m ++ drop lent store

-- how many of the first bytes there are in a list of this size
abbrev pub shorter : ℕ → ℕ → ℕ
shorter lent size = cond (ltb lent size) lent size

-- whether so many bytes of a store of this size can be lent; which lengths are allowed is document 01's, "Video memory
-- and block transfers" (HOUSE). The store's first bytes are then 0
abbrev pub lendable : ℕ → ℕ → Bool
lendable n size = length_allowed n && leb n size

unfoldable pub cleared : List ℕ → ℕ → List ℕ
cleared store n = replicate n 0 ++ drop n store

-- ---- each request

abbrev pub after_reset : Bench → ℕ → ℕ → Acted
after_reset b first second = replied (with_chip b (reset first second)) (Number 0)

-- document 02, P6: the register's byte before the write and after it; a refused write gives FFh twice
abbrev pub after_out : Bench → Wrote → Acted
after_out b w = replied (with_chip b w.chip) (Told (answer_number w.answer) w.before w.after)

-- a refused read gives FFh
abbrev pub after_in : Bench → Seen → Acted
after_in b s = replied (with_chip b s.chip) (Byte (answer_number s.answer) s.value)

-- the colour shown is document 01's, "Palette" (HOUSE)
abbrev pub after_pixel : Bench → Rgb → Acted
after_pixel b e = replied b (Colour e.red e.green e.blue)

-- 3: memory length not allowed, or more than the store has
unfoldable pub after_lend : Bench → ℕ → ℕ → Acted
after_lend b size n = cond (lendable n size) (replied (with_lent b n) (Number 0)) (replied b (Number 3))

unfoldable pub lent_from : List ℕ → ℕ → List ℕ
lent_from store n = cond (lendable n (length store)) (cleared store n) store

abbrev pub after_read : Bench → ℕ → ℕ → Acted
after_read b number value = replied b (Byte number value)

-- ---- any request

unfoldable pub acted : Bench → List ℕ → Request → Acted
acted b store (Reset first second) = after_reset b first second
acted b store (Out port v) = after_out b (port_written b.chip port v)
acted b store (In port) = after_in b (port_read b.chip port)
acted b store (Pixel p) = after_pixel b (shown (named b.chip) p)
acted b store (Lend n) = after_lend b (length store) n
acted b store (Read a) = after_read b (byte_number (length (memory b.lent store)) a) (byte_value (memory b.lent store) a)
acted b store (Write a v) = replied b (Number (byte_number (length (memory b.lent store)) a))
acted b store (Block t) = replied b (Number (judged_number (length (memory b.lent store)) t))
acted b store Dump = replied b Registers
acted b store Help = replied b Requests
acted b store Quit = replied (with_end b) Nothing
acted b store Pass = replied b Nothing
acted b store Unknown = replied b NoForm

unfoldable pub store_after : Bench → List ℕ → Request → List ℕ
store_after b store (Reset first second) = store
store_after b store (Out port v) = store
store_after b store (In port) = store
store_after b store (Pixel p) = store
store_after b store (Lend n) = lent_from store n
store_after b store (Read a) = store
store_after b store (Write a v) = with_memory b.lent store (byte_written (memory b.lent store) a v)
store_after b store (Block t) = with_memory b.lent store (transferred (memory b.lent store) t)
store_after b store Dump = store
store_after b store Help = store
store_after b store Quit = store
store_after b store Pass = store
store_after b store Unknown = store
