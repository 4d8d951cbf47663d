-- The laws of this crate: how long the text is (Lengths), where a register stands in its line (Places), and that the text
-- tells every listed register (Telling), with worked cases (Cases). Growing is for the proofs. The other folders have a
-- function's proof each.
pub mod Growing
pub mod Lengths
pub mod Places
pub mod Telling
pub mod Cases
