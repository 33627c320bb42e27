pub mod RuleLemmas
pub mod TermLemmas
pub mod NameLemmas
pub mod LinkLemmas
pub mod MeaningLemmas
