-- What has to be believed of what differs between two states: its text (Changes).
pub mod Changes
