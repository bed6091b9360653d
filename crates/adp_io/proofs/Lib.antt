pub mod Told
pub mod MemoryLemmas
pub mod Asked
pub mod Faults
