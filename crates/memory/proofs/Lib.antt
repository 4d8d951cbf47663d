-- Laws: the numbers of a read and a write are given exactly when document 01 says.
pub mod Laws
