-- What has to be believed of the input: what a request does (Acts), what of it is shown (View), and lines answered as their bytes
-- come (Lines).
pub mod Acts
pub mod View
pub mod Lines
