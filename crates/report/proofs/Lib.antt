pub mod Children
pub mod Writing
pub mod Answering
pub mod PairAnswering
