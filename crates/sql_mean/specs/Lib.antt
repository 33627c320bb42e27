pub mod Selects
pub mod Tables
pub mod Rows
pub mod Evaluation
