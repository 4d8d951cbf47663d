-- What has to be believed of a block transfer's bytes is in Transfer; when it is done, and where its bytes lie, is in crate
-- blit_frame. Working is for private functions alone.
pub mod Transfer
pub mod Working
