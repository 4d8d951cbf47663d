-- The laws of this crate: how long the text is, and the answers (Showing). The other folders have a function's proof each.
pub mod Showing
