-- The laws of this crate: of words (TokenLaws) and of numbers (HexLaws). The other folders have a function's proof each.
pub mod TokenLaws
pub mod HexLaws
