pub mod Rows
pub mod Linked
pub mod Sorted
pub mod Cursor
