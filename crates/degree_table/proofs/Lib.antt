pub mod SumLemmas
pub mod WeightLemmas
pub mod PickLemmas
