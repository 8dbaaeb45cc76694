pub mod Named
pub mod Taken
pub mod Fetching
pub mod Loads
pub mod Building
pub mod Forms
