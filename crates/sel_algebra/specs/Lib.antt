pub mod Operators
pub mod Laws
pub mod Entries
pub mod Table
pub mod Closure
pub mod Greatest
pub mod MatrixLaws
