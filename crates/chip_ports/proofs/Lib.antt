-- The laws of this crate: the listed ports and directions, computed, beside document 01's table (PortLaws).
pub mod PortLaws
