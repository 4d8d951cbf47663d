-- The definitions of this crate: what the writer makes of a list of steps (Write).
pub mod Write
