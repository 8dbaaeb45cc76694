pub mod Piecing
pub mod Arriving
pub mod Running
pub mod Telling
