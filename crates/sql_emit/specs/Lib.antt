pub mod Numbered
pub mod Rules
pub mod Reading
pub mod Text
pub mod Laws
pub mod Rows
pub mod Writing
