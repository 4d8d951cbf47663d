-- The definitions of this crate, in the order in which they build on each other: a block, a file, the reader,
-- and document 01's numbers for their answers.
pub mod Block
pub mod File
pub mod Reader
pub mod Numbers
