pub mod Class
pub mod Pattern
pub mod Piece
