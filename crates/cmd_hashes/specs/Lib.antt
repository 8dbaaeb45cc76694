pub mod Found
pub mod Changed
pub mod Set
pub mod Listed
pub mod Picked
