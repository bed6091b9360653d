pub mod Filling
pub mod SolvedFields
pub mod Sweeping
pub mod VisitedCells
