pub mod NestedRules
pub mod PlainTexts
pub mod IsPlain
pub mod Seen
