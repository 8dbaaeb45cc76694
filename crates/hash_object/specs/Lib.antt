pub mod Maps
pub mod Hashed
pub mod Fields
pub mod Items
pub mod Scan
pub mod Relocation
pub mod Laws
