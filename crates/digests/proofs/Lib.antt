pub mod Rounds
pub mod Words
pub mod Linear
pub mod Lookup
