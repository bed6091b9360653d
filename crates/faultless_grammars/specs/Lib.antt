pub mod Irrefutable
