pub mod PickLemmas
pub mod LawLemmas
