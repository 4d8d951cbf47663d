-- Laws of the store (StoreLaws), of a line and the text (LineLaws), of input in parts (PartLaws), and of lines that are
-- passed over (EndLaws).
pub mod StoreLaws
pub mod LineLaws
pub mod PartLaws
pub mod EndLaws
