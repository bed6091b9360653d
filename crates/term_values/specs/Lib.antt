pub mod Lowering
pub mod LoweredParts
pub mod TermParts
pub mod Values
