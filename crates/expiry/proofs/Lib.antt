pub mod Gathering
pub mod Finding
pub mod Setting
