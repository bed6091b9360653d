pub mod Positions
pub mod Lists
pub mod Tallies
pub mod Records
pub mod CodesApart
pub mod Frame
pub mod Keys
pub mod Names
pub mod Stores
pub mod Room
pub mod Moves
pub mod Made
pub mod Plays
pub mod Soundness
pub mod Planned
pub mod Demands
mod Wins
