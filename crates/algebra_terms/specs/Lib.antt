pub mod Errors
pub mod Tokens
pub mod Reading
pub mod WideSteps
pub mod WideErrors
pub mod WideReading
