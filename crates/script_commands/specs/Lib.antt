-- What has to be believed of commands: their bytes (Command), those of a step (Expansion), those of a file (Translation). Known
-- and Working are for the contracts of functions that put a list together.
pub mod Command
pub mod Expansion
pub mod Known
pub mod Translation
pub mod Working
