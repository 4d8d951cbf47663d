-- The laws of this crate: how long the text can be (Lengths), and what it says by the steps alone (ByName). The other
-- folders have a function's proof each.
pub mod Lengths
pub mod ByName
