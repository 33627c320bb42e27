pub mod PathRows
pub mod Mappings
pub mod Rows
pub mod Laws
pub mod Tables
pub mod Joins
