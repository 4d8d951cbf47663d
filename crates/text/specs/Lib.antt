-- What has to be believed of text: its bytes (Ascii), digits (Digits), the line of a refusal (Refused), and bytes put one
-- behind the other (Adding).
pub mod Ascii
pub mod Digits
pub mod Refused
pub mod Adding
