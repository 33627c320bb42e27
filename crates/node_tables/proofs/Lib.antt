pub mod SelectLemmas
pub mod NodeLemmas
pub mod TableLemmas
