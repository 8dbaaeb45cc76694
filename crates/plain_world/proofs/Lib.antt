pub mod Maps
pub mod Numerals
pub mod Containing
pub mod ScoreTexts
pub mod Lives
pub mod Lines
pub mod Apart
