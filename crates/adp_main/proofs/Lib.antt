mod Told
mod Turned
mod CheckedJobs
mod Endings
pub mod Made
pub mod MadeWords
pub mod Noting
pub mod Running
pub mod Written
pub mod FirstLimit
pub mod NestedReports
pub mod Reported
pub mod SecondAlgebras
pub mod KeptLengths
pub mod CompiledWords
pub mod Behind
pub mod Verifying
pub mod Certified
pub mod Blocks
pub mod FirstWords
pub mod Posts
pub mod SharedParts
pub mod SentSlots
