pub mod Gains
pub mod Counting
pub mod Splits
pub mod PieceLemmas
