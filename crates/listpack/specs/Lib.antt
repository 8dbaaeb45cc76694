pub mod Edits
pub mod Element
pub mod Entry
pub mod Faults
pub mod Pack
pub mod View
pub mod Writing
