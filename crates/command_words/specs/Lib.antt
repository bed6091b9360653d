pub mod OptionValues
pub mod Settings
