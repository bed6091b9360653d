pub mod Seeking
pub mod Skipping
