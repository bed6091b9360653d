pub mod Numbers
pub mod Raised
pub mod TotalsFields
pub mod Windows
