pub mod Known
pub mod Order
pub mod Ready
pub mod RowNumbers
pub mod RowRules
pub mod Steps
pub mod Sweeps
