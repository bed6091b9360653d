pub mod Deciding
pub mod Counting
pub mod GreatestLengths
pub mod Checked
pub mod Faults
pub mod AllCells
pub mod Limits
