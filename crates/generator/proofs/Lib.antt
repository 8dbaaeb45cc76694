pub mod Exact
pub mod Given
pub mod Short
pub mod Ways
