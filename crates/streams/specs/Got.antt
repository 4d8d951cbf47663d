-- What reading answers: how many bytes came, no more than there is room for; or the error of a read, and then nothing of what
-- came counts. No contract can say what a system's input gives; of a reader whose bytes are known it is said which of them came.
use Rattle.std.specs.Prelude.{ℕ, ◌<◌, ◌≤◌, List, take, ⊤, Option, Result, Ok, Err}
use Rattle.std.specs.Io.KnownBytes.{Consumes, IsAtEnd}
use Rattle.std.specs.declared.io.Error.{Error}

abbrev pub Within : Result ℕ Error → ℕ → Type 0
Within (Ok n) room = n ≤ room
Within (Err e) room = 0 ≤ room

-- the bytes that came, which stand first in the list, are the first that the reader had
abbrev pub Comes : Result ℕ Error → Option (List ℕ) → Option (List ℕ) → List ℕ → Type 0
Comes (Ok n) old new bytes = Consumes old new (take n bytes)
Comes (Err e) old new bytes = ⊤

-- where the room is not full, the reader has nothing left
abbrev pub EndsUnlessFull : Result ℕ Error → ℕ → Option (List ℕ) → Type 0
EndsUnlessFull (Ok n) room new = n < room → IsAtEnd new
EndsUnlessFull (Err e) room new = ⊤
