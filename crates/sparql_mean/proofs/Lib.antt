pub mod PathLemmas
pub mod JoinLemmas
pub mod StepLemmas
