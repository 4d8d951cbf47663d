-- The laws of this crate: of names (NameLaws), accesses (AccessLaws), numbers (NumberLaws), indexes (IndexLaws), the attribute
-- port (AttributeLaws), the palette by ports (PaletteLaws) and its index (PaletteIndexLaws), the colour shown (ShownLaws), the
-- reset (ResetLaws), sizes (SizeLaws), reached states (ReachLaws), what is kept and shown of a state (ViewLaws), and which states
-- are shown (KeptLaws), and whether an access changed a register or a colour (DifferLaws). Banks, Reached and Places are for
-- their proofs. The other folders have a function's proof each.
pub mod Reached
pub mod Banks
pub mod NameLaws
pub mod AccessLaws
pub mod NumberLaws
pub mod IndexLaws
pub mod AttributeLaws
pub mod PaletteLaws
pub mod PaletteIndexLaws
pub mod ShownLaws
pub mod ResetLaws
pub mod ReachLaws
pub mod SizeLaws
pub mod ViewLaws
pub mod KeptLaws
pub mod DifferLaws
pub mod Places
