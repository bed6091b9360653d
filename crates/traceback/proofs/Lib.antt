pub mod Stacking
pub mod Remaining
pub mod Steps
pub mod Beginning
