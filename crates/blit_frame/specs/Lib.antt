-- What has to be believed of a transfer's places, and of when it is done, is in Frame. Lines is for code that works a line out.
pub mod Frame
pub mod Lines
