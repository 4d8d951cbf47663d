-- What has to be believed of the short list is one definition, in Short. Memory is for the contracts of private functions alone.
pub mod Short
pub mod Memory
