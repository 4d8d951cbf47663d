-- The definitions of this crate, a file to a subject: going through places in order (Scan), a list by its
-- elements (Tab), a list written into another (Put), a length in whole units (Units), a number with its
-- value (Numbers), and the bits of a number (Bits).
pub mod Scan
pub mod Tab
pub mod Put
pub mod Units
pub mod Numbers
pub mod Bits
