pub mod Highest
pub mod Positions
pub mod RaisedRows
pub mod RaisedSums
pub mod Windowed
