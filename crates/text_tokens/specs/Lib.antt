-- What has to be believed of a line: its words (Tokens), and words that are numbers (Hex).
pub mod Tokens
pub mod Hex
