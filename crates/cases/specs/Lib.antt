-- What a case of a table of set-ups can say, document 01's starred ones, and the witnesses of must-fail edits.
pub mod Cases
pub mod Starred
pub mod Witnesses
