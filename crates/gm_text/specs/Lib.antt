pub mod Name
pub mod Decimal
pub mod Lines
