pub mod Tables
pub mod Arms
pub mod Families
pub mod Names
pub mod PickWords
pub mod SecondWords
pub mod PendingWords
