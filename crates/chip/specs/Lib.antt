-- What has to be believed of the chip, in the order to read it: its parts (State), a register by name (Names), the palette
-- (Palette), the attribute port (Attribute), port accesses (Access), whether one changed a register or a colour (Differ), the
-- reset (Reset), the states that accesses reach (Reach), and what is kept of a state (View).
pub mod State
pub mod Names
pub mod Palette
pub mod Attribute
pub mod Access
pub mod Differ
pub mod Reset
pub mod Reach
pub mod View
