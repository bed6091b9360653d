pub mod Counting
pub mod CountedRules
pub mod CountedBlocks
pub mod PlacedBlocks
pub mod WordBlocks
