-- How a text grows in a lent output: bytes go behind those that stand there, where there is room; else nothing
-- changes and the next byte goes where these were to go. With room and without: proofs/Adding.
use Rattle.std.specs.Prelude.{ℕ, ◌+◌, ◌≤◌, Bool, cond, ◌≡◌, List, leb, length}
use Rattle.lists.specs.Put.{put, Added}

abbrev pub fits : ℕ → List ℕ → ℕ → Bool
fits room out at = leb (at + room) (length out)

-- what the output then holds, and where the next byte goes, where so much room is asked for
unfoldable pub with_added_in : ℕ → List ℕ → ℕ → List ℕ → List ℕ
with_added_in room out at bytes = cond (fits room out at) (put out at bytes) out

unfoldable pub behind_in : ℕ → List ℕ → ℕ → List ℕ → ℕ
behind_in room out at bytes = cond (fits room out at) (at + length bytes) at

-- what every function that adds promises. The first two say all; the others follow from them where the bytes are at most as long
-- as the room, and serve callers: how far the next place is, that it lies within the output, and that with room the bytes stand
-- there
pub record AddedIn (room : ℕ) (before : List ℕ) (at : ℕ) (bytes : List ℕ) (after : List ℕ) (end : ℕ) : Type 0 where
  pub next : end ≡ behind_in room before at bytes
  pub now : after ≡ with_added_in room before at bytes
  pub most : end ≤ at + room
  pub within : at ≤ length before → end ≤ length before
  pub here : at + room ≤ length before → Added before at bytes after end
