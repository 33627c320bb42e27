pub mod TableLemmas
pub mod JoinLemmas
pub mod QueryLemmas
pub mod RowLemmas
