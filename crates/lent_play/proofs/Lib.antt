pub mod Playing
pub mod Demand3
