-- What has to be believed of reading an input: how many bytes came (Got); and what a program says where it cannot (Said).
pub mod Got
pub mod Said
