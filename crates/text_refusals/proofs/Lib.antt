-- The laws of this crate: how long a complaint can be (Lengths). The other folders have a function's proof each.
pub mod Lengths
