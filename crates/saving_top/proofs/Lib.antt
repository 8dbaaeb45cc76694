mod Short
mod Fit
mod Engines
mod Left
mod Whole
mod Readings
