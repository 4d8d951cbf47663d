-- The laws of this crate: what stands behind a command and how long a line and the text are (EffectLaws), that a line ends with
-- a line feed (LineLaws), and a worked case (Cases). Going and Answers are for the proofs of the loop and of `tell`. The other
-- folders have a function's proof each.
pub mod EffectLaws
pub mod LineLaws
pub mod Going
pub mod Answers
pub mod Cases
