-- What has to be believed of a run is in Run; View has what of it is shown.
pub mod Run
pub mod View
