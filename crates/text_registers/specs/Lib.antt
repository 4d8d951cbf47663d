-- What has to be believed of the text of all registers: a line (Line), and the whole text with where it goes (Text).
pub mod Line
pub mod Text
