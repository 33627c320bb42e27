pub mod Edge
pub mod Symbols
pub mod Schema
pub mod Labelled
pub mod Configured
