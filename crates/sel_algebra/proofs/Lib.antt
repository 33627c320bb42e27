pub mod EntryLemmas
pub mod TableLemmas
pub mod UnitLemmas
pub mod RowLemmas
pub mod RankLemmas
pub mod ClosureLemmas
pub mod GreatestLemmas
pub mod PathLemmas
