pub mod Found
pub mod Spans
pub mod Changed
pub mod Written
pub mod Popped
pub mod Picked
pub mod Joined
