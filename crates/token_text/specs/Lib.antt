pub mod Tokens
pub mod Spelled
