pub mod Fills
pub mod SweptRows
pub mod Sweeps
pub mod VisitedFills
