-- What has to be believed of a script file as text (Show).
pub mod Show
