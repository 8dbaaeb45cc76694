pub mod Timed
pub mod Found
pub mod Changes
