pub mod Adding
pub mod Counting
pub mod Elements
pub mod Signs
