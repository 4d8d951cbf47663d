-- The definitions of this crate: a step, read and written (Step).
pub mod Step
