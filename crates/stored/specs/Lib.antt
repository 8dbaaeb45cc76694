pub mod Owning
pub mod Passing
