pub mod TreeLemmas
pub mod ListLemmas
pub mod StarLemmas
pub mod WordLemmas
