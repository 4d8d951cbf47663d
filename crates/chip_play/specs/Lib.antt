-- To read in this order: what steps say by name (ByName), demand 3 (Demand3), what the entry promises (Played), what of it is
-- shown (View), and document 02's P7, of accesses, runs and scripts (Matching).
pub mod ByName
pub mod Demand3
pub mod Played
pub mod View
pub mod Matching
