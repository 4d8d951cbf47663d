-- What has to be believed of a text made into a script file: its lines (Lines), what comes of them (Compose), and what is said
-- of that (Complaint). Working is for private functions alone.
pub mod Lines
pub mod Compose
pub mod Complaint
pub mod Working
