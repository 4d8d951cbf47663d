-- What has to be believed of an answer: its text, and where it goes (Reply).
pub mod Reply
