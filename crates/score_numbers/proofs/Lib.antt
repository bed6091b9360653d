pub mod Combined
pub mod FirstFound
pub mod FirstSums
pub mod Greatest
pub mod LaneValues
pub mod LargestSums
pub mod LiveNumbers
pub mod TermChunks
mod WeighedPositions
