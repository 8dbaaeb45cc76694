pub mod Reversal
pub mod Places
pub mod Walks
