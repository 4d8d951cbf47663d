-- The laws of this crate: of the text (ReplyLaws). The other folders have a
-- function's proof each.
pub mod ReplyLaws
