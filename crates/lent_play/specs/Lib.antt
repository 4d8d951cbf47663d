-- To read: a script played on lent bytes (Play), and demand 3 on them, after each step (Demand3).
pub mod Play
pub mod Demand3
