pub mod Collections
pub mod Keys
pub mod Saving
