pub mod Strings
pub mod Hashed
pub mod Members
pub mod Items
pub mod Scan
pub mod Relocation
pub mod Laws
