pub mod Seen
pub mod Groups
pub mod Index
pub mod GroupsCode
pub mod Kept
pub mod Consumers
pub mod Waits
