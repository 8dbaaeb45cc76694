pub mod Touched
pub mod Walking
pub mod Engines
pub mod Laws
pub mod Background
