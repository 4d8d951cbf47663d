-- Numbers: laws, each number exactly when document 01 says. Setups: cases computed. Areas: where a transfer's bytes lie, and
-- what an accepted one gives of its lines. Flags: a test made of two, and cases on a flag.
pub mod Flags
pub mod Numbers
pub mod Setups
pub mod Areas
