pub mod MadeLetters
pub mod MadeTrees
pub mod PairBounds
pub mod PairCells
pub mod PairWays
pub mod PairsChecked
pub mod PairsSpelled
