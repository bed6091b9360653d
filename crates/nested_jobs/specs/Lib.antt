pub mod NestedJob
pub mod Reading
