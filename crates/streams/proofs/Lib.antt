-- The laws of this crate: how a complaint begins (Complaints). The other folders have a function's proof each.
pub mod Complaints
