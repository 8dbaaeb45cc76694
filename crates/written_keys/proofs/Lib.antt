pub mod Base
pub mod Values
pub mod Collections
pub mod Staying
pub mod Lists
pub mod Keys
