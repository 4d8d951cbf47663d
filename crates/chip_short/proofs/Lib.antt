-- The theorem is in Demand3. Under it: lists of commands that do the same (Alike), an index that is written where it stands
-- (Repeated), what is known between two steps (Between); and the entry (Playing). IndexPorts says that
-- the rule's ports are the right ones.
pub mod Alike
pub mod Repeated
pub mod Between
pub mod Demand3
pub mod Playing
pub mod IndexPorts
