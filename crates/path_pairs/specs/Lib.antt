pub mod Trees
pub mod Pairs
pub mod Rounds
pub mod Words
pub mod Laws
