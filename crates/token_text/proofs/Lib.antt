pub mod TokenLemmas
pub mod SpelledLemmas
