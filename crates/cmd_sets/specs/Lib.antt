pub mod Found
pub mod Changed
pub mod Edited
pub mod Moves
pub mod Joined
pub mod Picked
