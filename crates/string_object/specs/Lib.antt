pub mod Text
pub mod Range
pub mod Laws
