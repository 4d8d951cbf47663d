-- What has to be believed of the raster code is in Raster. AppendixE has the print's rows as data; proofs/AppendixELaws shows
-- that the raster code is theirs, and proofs/Laws what else it gives.
pub mod Raster
pub mod AppendixE
