pub mod Ways
pub mod Units
pub mod Answered
pub mod Over
pub mod Hearings
pub mod Running
pub mod Endings
