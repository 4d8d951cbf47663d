-- The laws of this crate: of digits (DigitLaws), and of bytes put one behind the other (Adding). The other folders have a
-- function's proof each.
pub mod DigitLaws
pub mod Adding
