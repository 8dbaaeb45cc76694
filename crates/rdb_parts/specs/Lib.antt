pub mod Shelves
pub mod Pens
pub mod Words
pub mod ScoreWords
pub mod Leading
