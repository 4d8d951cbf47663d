-- The laws of this crate: bytes and commands (Codec), how many a step has (Expanding), without its index writes too (Knowing), a
-- file's steps and where their commands begin (Counted), commands written (Writing), the translation's answers (Translating). The
-- other folders have a function's proof each.
pub mod Codec
pub mod Expanding
pub mod Knowing
pub mod Counted
pub mod Writing
pub mod Translating
