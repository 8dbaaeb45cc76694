pub mod Spelled
pub mod Texts
pub mod Values
pub mod Streams
pub mod Items
