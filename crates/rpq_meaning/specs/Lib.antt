pub mod Tables
pub mod QueryRows
pub mod Joins
