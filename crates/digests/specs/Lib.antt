pub mod Siphash
pub mod Crc
pub mod Entries
