-- Laws of the short list (ShortLaws), and a script's by hand (Cases); a step of it, by the way its group is reached, and what has
-- to be kept in mind of the steps before it (Recalling); and the translation's loop (Remembering). The other folders have a
-- function's proof each.
pub mod ShortLaws
pub mod Cases
pub mod Recalling
pub mod Remembering
