-- What has to be believed of the text of a played script (Told).
pub mod Told
