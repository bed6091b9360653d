pub mod FourNumbers
pub mod NamedValues
pub mod Values
pub mod Products
pub mod Lowerings
pub mod PaddedFactors
pub mod ScoreFactors
pub mod Rising
