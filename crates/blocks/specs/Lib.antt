pub mod Blocks
pub mod Laws
pub mod Plain
pub mod PlainFinite
pub mod Slabs
pub mod Steps
