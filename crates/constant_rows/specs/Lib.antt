pub mod Nodes
pub mod Graphs
pub mod Bounded
pub mod Laws
