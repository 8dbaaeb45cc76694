pub mod Swept
pub mod Ways
