pub mod Shelved
pub mod Penned
pub mod Spelled
pub mod Led
pub mod Scored
