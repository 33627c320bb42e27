pub mod Candidates
pub mod Laws
pub mod LiveRows
