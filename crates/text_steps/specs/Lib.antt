-- What has to be believed of a step as a line of text: how it is written (Written), and how a line is read (Reading).
pub mod Written
pub mod Reading
