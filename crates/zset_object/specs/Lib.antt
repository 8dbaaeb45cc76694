pub mod Orders
pub mod Packed
pub mod Scored
pub mod Items
pub mod Scan
pub mod Relocation
pub mod Laws
