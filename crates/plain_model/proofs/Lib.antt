pub mod Bulks
pub mod Led
pub mod Covered
pub mod FixedRuns
pub mod Told
pub mod Asked
pub mod StreamsAsked
