-- What has to be believed of video memory, one byte at a time.
pub mod Memory
