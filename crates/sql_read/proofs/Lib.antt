pub mod TokenLemmas
pub mod GrammarLemmas
pub mod ListLemmas
pub mod PartLemmas
pub mod ScopeLemmas
pub mod ConditionLemmas
pub mod ReadLemmas
