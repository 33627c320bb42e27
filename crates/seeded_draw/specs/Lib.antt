pub mod Draw
pub mod Place
