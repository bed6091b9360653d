pub mod AnswerWords
pub mod Probes
pub mod Members
pub mod Meanings
pub mod Stepped
pub mod Following
pub mod ClosedTables
