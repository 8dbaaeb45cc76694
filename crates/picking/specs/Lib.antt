pub mod Picks
pub mod Sofar
pub mod Elements
