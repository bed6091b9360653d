pub mod PairsText
