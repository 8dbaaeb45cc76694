pub mod Named
pub mod Conducting
pub mod Takings
