-- The laws of this crate. To read: Check and Change (one check, any one byte changed is found), Checking (each
-- answer is given exactly when), Reading (the reader hands out exactly the steps). For the proofs: Sum, Rules,
-- Counting. The other folders have a function's proof each.
pub mod Sum
pub mod Check
pub mod Rules
pub mod Counting
pub mod StepLaws
pub mod Checking
pub mod Reading
pub mod Change
