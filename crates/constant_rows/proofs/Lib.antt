pub mod EntryLemmas
pub mod GraphLemmas
pub mod PathLemmas
pub mod SpineLemmas
pub mod DrawnLemmas
pub mod CountLemmas
pub mod BoundLemmas
