pub mod Lists
pub mod Packs
pub mod Maps
pub mod Distinct
