pub mod Packed
pub mod Halves
pub mod Edited
pub mod Written
pub mod Sorted
