pub mod Nodes
pub mod Chain
pub mod Cursor
pub mod Equal
pub mod Laws
