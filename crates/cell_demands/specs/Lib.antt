pub mod LetterRows
pub mod PlaceBits
pub mod Rows
pub mod Runs
pub mod TailNotes
pub mod Tails
