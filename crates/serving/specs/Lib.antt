pub mod Path
pub mod Timed
pub mod Output
pub mod Answering
pub mod Taking
pub mod Served
pub mod Exactly
