-- Cases of document 02's requests.
pub mod Asked
