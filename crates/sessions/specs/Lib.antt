pub mod Way
pub mod Telling
pub mod Answering
pub mod Slots
pub mod Hearing
pub mod Chunks
pub mod Served
