-- The tables hold, and one has document 01's starred cases (Holding); rows that hold by a test that computes at once (Quickly).
pub mod Quickly
pub mod Holding
