pub mod Rules
pub mod ClassMembers
pub mod Pieces
pub mod Stars
pub mod Walks
