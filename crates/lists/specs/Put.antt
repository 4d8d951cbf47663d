-- What a lent output holds once a list has been written into it at a place: what stood before, the list,
-- and what stood after. "Bytes of a lent output after the answer keep their value" (document 01, Numbers
-- returned). The laws of one write after another are in proofs/Put.
use Rattle.std.specs.Prelude.{ℕ, ◌+◌, ◌≡◌, List, ◌++◌, length, take, drop}

abbrev pub put : List ℕ → ℕ → List ℕ → List ℕ
put o i x = take i o ++ x ++ drop (i + length x) o

-- bytes stand in an output from a place on, and end at another
pub record Added (before : List ℕ) (at : ℕ) (bytes : List ℕ) (after : List ℕ) (end : ℕ) : Type 0 where
  pub now : after ≡ put before at bytes
  pub next : end ≡ at + length bytes
