pub mod Lines
pub mod Owned
pub mod Rows
pub mod Tally
