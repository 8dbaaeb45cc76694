pub mod Stepped
pub mod Heard
