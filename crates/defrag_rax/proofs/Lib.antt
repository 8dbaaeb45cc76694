pub mod Splitting
pub mod Tallies
pub mod Told
pub mod Ways
