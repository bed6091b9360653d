pub mod Visits
pub mod StepsMade
pub mod Memos
pub mod Machines
pub mod StepBound
