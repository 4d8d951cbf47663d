-- The laws of this crate: of lines (LineLaws) and the text (TextLaws), with worked cases (Cases). Adding and Listing are for
-- the proofs. The other folders have a function's proof each.
pub mod LineLaws
pub mod Adding
pub mod Listing
pub mod TextLaws
pub mod Cases
