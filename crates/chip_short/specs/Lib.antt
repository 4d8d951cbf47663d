-- To read in this order: demand 3 for the short list (Demand3), and what the entry promises (Played).
pub mod Demand3
pub mod Played
