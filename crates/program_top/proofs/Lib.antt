pub mod Lines
pub mod Starts
pub mod Generations
pub mod Worlds
pub mod Counted
pub mod Unloaded
pub mod Whole
pub mod Readings
