-- The laws that this crate and those above it cite: of tests (Tests), of the definitions of specs/ (Scan, Tab,
-- Put, Bits), and of parts of a list (Parts).
pub mod Tests
pub mod Scan
pub mod Tab
pub mod Put
pub mod Bits
pub mod Parts
