-- The laws of a step: a step passes exactly where the documents say (Lawful), and reading and writing undo
-- each other (Codec).
pub mod Lawful
pub mod Codec
