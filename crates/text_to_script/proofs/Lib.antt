-- The laws of this crate: of lines (LineLaws) and the mark in front of a text (MarkLaws), of the answers (Answers) and their
-- numbers (Numbers), how long a complaint is (Complaining), what is shown composes to the same file (SameFile), and worked
-- cases (Cases). Gathering is for the proofs. The other folders have a function's proof each.
pub mod LineLaws
pub mod MarkLaws
pub mod Gathering
pub mod Answers
pub mod Numbers
pub mod Complaining
pub mod SameFile
pub mod Cases
