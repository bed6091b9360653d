pub mod Pieces
pub mod PairOutcomes
pub mod Faults
