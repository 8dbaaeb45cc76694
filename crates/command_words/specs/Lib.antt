pub mod Joins
pub mod Readings
