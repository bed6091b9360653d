pub mod Drawing
pub mod Rotating
