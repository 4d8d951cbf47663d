-- What has to be believed of a script's effects as text (Effects).
pub mod Effects
