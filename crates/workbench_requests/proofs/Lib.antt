-- The laws of this crate: worked lines (WorkedLines). The other folders have a function's proof each.
pub mod WorkedLines
