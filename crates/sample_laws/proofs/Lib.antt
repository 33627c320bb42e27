pub mod LiveLemmas
pub mod TotalLemmas
