-- What a case of a table of set-ups can say, and when it holds, over the definitions that the contracts cite. The tables are
-- Starred, document 01's, and in crate cases_requests those of document 02's requests.
use Rattle.std.specs.Prelude.{ℕ, ◌-◌, Bool, true, false, not, ◌&&◌, List, [], ◌∷◌, ◌++◌, eqb, length, take, replicate}
use Rattle.chip_registers.specs.declared.Group.{Group}
use Rattle.chip.specs.State.{Chip, named}
use Rattle.chip.specs.Names.{register}
use Rattle.chip.specs.Palette.{entry, shown}
use Rattle.chip.specs.Access.{Wrote, answer_number, port_written, port_read}
use Rattle.chip.specs.Differ.{differ}
use Rattle.chip.specs.Reset.{reset}
use Rattle.chip.specs.declared.Rgb.{Rgb}
use Rattle.blit_raster.specs.Raster.{raster}
use Rattle.blit.specs.Transfer.{transferred}
use Rattle.blit_frame.specs.declared.Transfer.{Transfer}
use Rattle.script_steps.specs.Step.{bytes_of as stepBytes}
use Rattle.script_steps.specs.declared.Step.{Step}
use Rattle.script.specs.Block.{word}
use Rattle.script_writer.specs.Write.{file_of, written, of_written}
use Rattle.script_commands.specs.Command.{bytes_of_all}
use Rattle.script_commands.specs.Expansion.{expanded}

-- ---- what a row can say

-- one thing that is done to a chip or looked up in it
pub data Event : Type 0 where
  -- a byte written to a port, with number 0
  gets : ℕ → ℕ → Event
  -- the same, with the two bytes that the write hands back, the register's before and after it: a write that changes a register
  -- or a colour, and one that changes none
  alters : ℕ → ℕ → ℕ → ℕ → Event
  leaves : ℕ → ℕ → ℕ → ℕ → Event
  -- a byte written to a port, with another number: it hands back FFh twice
  refuses : ℕ → ℕ → ℕ → Event
  -- a port read, with number 0
  reads : ℕ → ℕ → Event
  -- a register by name
  is : Group → ℕ → ℕ → Event
  -- a palette entry, and the colour of a pixel
  colour : ℕ → ℕ → ℕ → ℕ → Event
  shows : ℕ → ℕ → ℕ → ℕ → Event

pub data Row : Type 0 where
  -- from a reset with these pin bytes
  chip : ℕ → ℕ → List Event → Row
  -- P, S, D, a code and the byte that it gives
  raster-byte : ℕ → ℕ → ℕ → ℕ → ℕ → Row
  -- the first bytes of a memory of 4,096, a transfer, and the first bytes afterwards
  moves : List ℕ → Transfer → List ℕ → Row
  -- a step and the bytes of its commands
  commands : Step → List ℕ → Row
  -- a file of one step: the writer makes one block of it, whose check is this
  check : Step → ℕ → Row
  -- steps given to the writer with room for a block, and its number and value
  answers : List Step → ℕ → ℕ → Row

-- ---- when it holds

abbrev pub same : List ℕ → List ℕ → Bool
same [] [] = true
same [] (y ∷ ys) = false
same (x ∷ xs) [] = false
same (x ∷ xs) (y ∷ ys) = eqb x y && same xs ys

abbrev pub components : Rgb → List ℕ
components c = c.red ∷ c.green ∷ c.blue ∷ []

-- a write has this number, and hands back these two bytes
abbrev pub hands : Wrote → ℕ → ℕ → ℕ → Bool
hands w number before after = eqb (answer_number w.answer) number && (eqb w.before before && eqb w.after after)

-- whether a port write changes a register or a colour
abbrev pub changing : Chip → ℕ → ℕ → Bool
changing c p v = differ c (port_written c p v).chip

-- the test of that is a parameter: a row holds by `changing`, and proofs/Quickly has one that is the same and computes at once
abbrev pub happens_by : (Chip → ℕ → ℕ → Bool) → Chip → List Event → Bool
happens_by t c [] = true
happens_by t c (gets p v ∷ es) = eqb (answer_number (port_written c p v).answer) 0 && happens_by t (port_written c p v).chip es
happens_by t c (alters p v before after ∷ es) =
    hands (port_written c p v) 0 before after && (t c p v && happens_by t (port_written c p v).chip es)
happens_by t c (leaves p v before after ∷ es) =
    hands (port_written c p v) 0 before after && (not (t c p v) && happens_by t (port_written c p v).chip es)
happens_by t c (refuses p v number ∷ es) = hands (port_written c p v) number 0xFF 0xFF && happens_by t (port_written c p v).chip es
happens_by t c (reads p v ∷ es) =
    eqb (answer_number (port_read c p).answer) 0 && (eqb (port_read c p).value v && happens_by t (port_read c p).chip es)
happens_by t c (is g i v ∷ es) = eqb (register g (named c) i) v && happens_by t c es
happens_by t c (colour e r g b ∷ es) = same (components (entry (named c) e)) (r ∷ g ∷ b ∷ []) && happens_by t c es
happens_by t c (shows p r g b ∷ es) = same (components (shown (named c) p)) (r ∷ g ∷ b ∷ []) && happens_by t c es

-- a memory of 4,096 bytes that begins so
abbrev pub memory : List ℕ → List ℕ
memory front = front ++ replicate (4096 - length front) 0

abbrev pub list_of : List Step → List ℕ
list_of [] = []
list_of (s ∷ ss) = stepBytes s ++ list_of ss

-- the writer, with room for a block, answers so
abbrev pub written_as : List Step → ℕ → ℕ → Bool
written_as ss number value = eqb (of_written (written (list_of ss) 512)).number number && eqb (of_written (written (list_of ss) 512)).value value

abbrev pub holds_by : (Chip → ℕ → ℕ → Bool) → Row → Bool
holds_by t (chip first second es) = happens_by t (reset first second) es
holds_by t (raster-byte p s d code byte) = eqb (raster code p s d) byte
holds_by t (moves front x after) = same (take (length after) (transferred (memory front) x)) after
holds_by t (commands s bytes) = same (bytes_of_all (expanded s)) bytes
holds_by t (check s w) = written_as (s ∷ []) 0 1 && (eqb (length (file_of (stepBytes s))) 512 && eqb (word (file_of (stepBytes s)) 510) w)
holds_by t (answers ss number value) = written_as ss number value

abbrev pub rows_hold_by : (Chip → ℕ → ℕ → Bool) → List Row → Bool
rows_hold_by t [] = true
rows_hold_by t (r ∷ rs) = holds_by t r && rows_hold_by t rs

abbrev pub rows_hold : List Row → Bool
rows_hold rs = rows_hold_by changing rs

-- ---- a table: each case with its number in the document

pub record Case : Type 0 where
  pub number : ℕ
  pub row : Row

abbrev pub numbers : List Case → List ℕ
numbers [] = []
numbers (c ∷ cs) = c.number ∷ numbers cs

abbrev pub rows : List Case → List Row
rows [] = []
rows (c ∷ cs) = c.row ∷ rows cs

abbrev pub all_hold : List Case → Bool
all_hold cs = rows_hold (rows cs)

-- a row under its number
abbrev pub case : ℕ → Row → Case
case n r = record { number = n; row = r }
