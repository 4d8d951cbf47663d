-- Laws: the raster code is the right one. AppendixELaws: it is that of the print's rows. Terms: what the proofs of the raster
-- byte share.
pub mod Laws
pub mod AppendixELaws
pub mod Terms
