pub mod EdgeLemmas
pub mod SymbolLemmas
pub mod LabelledLemmas
pub mod ConfiguredLemmas
