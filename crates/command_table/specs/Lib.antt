pub mod Families
pub mod Rows
