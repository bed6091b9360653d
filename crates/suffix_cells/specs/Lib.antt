pub mod Ranks
pub mod Straight
pub mod Sweeping
pub mod Targets
pub mod Visits
pub mod VisitsFields
