-- What has to be believed of the registers: the tables, a chapter a file, with Rows and Groups, where a register stands in the
-- row of all (Row), the index registers (Indexes), and the write rule (WriteRule).
pub mod Rows
pub mod CrtController
pub mod Sequencer
pub mod Graphics
pub mod Attribute
pub mod Extension
pub mod FlatPanel
pub mod Multimedia
pub mod Groups
pub mod Row
pub mod Indexes
pub mod WriteRule
