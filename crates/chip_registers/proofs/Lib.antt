-- The laws of this crate: the tables as lists (TableLaws), the rows that document 01 prints (PrintedRows), the write rule bit
-- for bit (WriteLaws), which registers a lock reaches (LockLaws), what index registers keep (IndexLaws), where registers stand in
-- the row (RowLaws). Stretches is for the proof of XR's match, in the other folder.
pub mod Stretches
pub mod WriteLaws
pub mod LockLaws
pub mod TableLaws
pub mod PrintedRows
pub mod IndexLaws
pub mod RowLaws
