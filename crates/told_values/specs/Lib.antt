pub mod Told
pub mod Codes
pub mod Reading
pub mod Entries
