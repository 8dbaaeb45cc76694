pub mod Intset
pub mod Places
