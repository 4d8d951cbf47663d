-- The laws of this crate. To read: RoundTrip (both round trips), Writing (each answer is given exactly when)
-- and Cases (set-up 13). For the proofs: Blocks, Back, Again. The other folders have a function's proof each.
pub mod Blocks
pub mod Writing
pub mod Back
pub mod Again
pub mod RoundTrip
pub mod Cases
