-- Laws show that the definition of a transfer is the right one; Turns is what they and the proofs ask of `in_turn`.
-- Parts, Still and Ways: a line, for `lines`. Rows: the lines of an accepted transfer.
pub mod Turns
pub mod Laws
pub mod Parts
pub mod Still
pub mod Ways
pub mod Rows
