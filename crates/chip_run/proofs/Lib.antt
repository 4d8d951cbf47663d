-- The laws of this crate to read are in RunLaws, those of its numbers in RunNumbers, and those of how many commands changed
-- something in ChangingLaws. Turns is for the proof of the loop. The other folders have a function's proof each.
pub mod Turns
pub mod RunLaws
pub mod RunNumbers
pub mod ChangingLaws
