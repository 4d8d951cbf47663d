pub mod Layout
pub mod Accesses
pub mod Numbers
