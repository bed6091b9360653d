pub mod Following
pub mod Erasing
pub mod Restoring
pub mod Scoring
pub mod Ordering
pub mod Patterned
pub mod Preferring
