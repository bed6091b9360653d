pub mod CountedCells
pub mod Layout
