-- What has to be believed of a request: what the tokens of a line ask for (Request).
pub mod Request
