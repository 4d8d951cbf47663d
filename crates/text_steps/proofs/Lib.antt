-- The laws of this crate: comments change nothing (CommentLaws), a written step reads back (ReadBack), the characters of its text
-- (Plain), how long lines are (Lengths), and worked cases (Cases). The other folders have a function's proof each.
pub mod Plain
pub mod CommentLaws
pub mod Lengths
pub mod ReadBack
pub mod Cases
