pub mod PathText
pub mod QueryText
pub mod Printed
pub mod Laws
pub mod Todo
pub mod Examples
pub mod RowLaws
pub mod Words
