pub mod EdgesText
pub mod Graph
pub mod Pairs
pub mod Rows
