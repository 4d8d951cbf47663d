pub mod Flags
pub mod Stores
pub mod Holding
pub mod Whole
pub mod Words
pub mod Reached
