pub mod Emptied
pub mod Found
pub mod Sieve
pub mod Slabs
