-- What has to be believed of a listing: a command's line (Line), the whole text (Text). Adding is for private functions alone;
-- digits are the crate text's.
pub mod Line
pub mod Text
pub mod Adding
