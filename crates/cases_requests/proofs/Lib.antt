-- The table holds.
pub mod Holding
