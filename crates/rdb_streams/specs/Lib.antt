pub mod Reading
pub mod Seeing
pub mod Claims
pub mod Grouped
