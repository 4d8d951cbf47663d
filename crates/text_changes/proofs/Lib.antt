-- The laws of this crate: how long the text can be (Lengths), that what it does not tell is the same in both states
-- (Telling), that one write is at most one line (One), and a worked case (Cases). The other folders have a function's proof
-- each.
pub mod Lengths
pub mod Telling
pub mod One
pub mod Cases
