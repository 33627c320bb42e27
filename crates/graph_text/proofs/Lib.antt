pub mod BadLineLemmas
pub mod EdgesTextLemmas
pub mod PartLemmas
pub mod MemberLemmas
pub mod RowLemmas
