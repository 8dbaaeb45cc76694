pub mod Ranges
pub mod StringLemmas
pub mod Lowering
pub mod Pairs
pub mod Sought
pub mod Placing
