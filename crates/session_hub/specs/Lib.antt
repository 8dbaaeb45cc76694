pub mod Standing
pub mod Stepping
pub mod Hearing
