pub mod FirstTrees
pub mod Entries
pub mod RankedSplits
pub mod ListReport
pub mod NestedListReport
pub mod ListLimits
