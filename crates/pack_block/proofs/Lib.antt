pub mod Shapes
pub mod Blocks
pub mod Lengths
pub mod Copying
pub mod Edited
