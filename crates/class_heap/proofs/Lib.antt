mod Values
mod HeldForm
mod HeldShows
mod HeldSteps
mod HeldAsMut
pub mod Pieces
pub mod Chains
pub mod Parts
pub mod Descent
pub mod Heaps
pub mod Placings
pub mod Keeping
pub mod Tallies
pub mod Moving
pub mod Returns
pub mod Lengthening
