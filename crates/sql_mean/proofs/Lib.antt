pub mod NameLemmas
pub mod SelectLemmas
pub mod EvaluationLemmas
pub mod KnownLemmas
pub mod LoopLemmas
pub mod RoundLemmas
pub mod AllLemmas
pub mod LastLemmas
