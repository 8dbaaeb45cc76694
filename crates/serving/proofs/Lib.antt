pub mod Timing
pub mod Onward
pub mod Runs
pub mod Finishing
pub mod Endings
pub mod Wholes
pub mod Said
