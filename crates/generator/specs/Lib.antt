pub mod Requests
pub mod Commands
pub mod Generated
pub mod Lines
pub mod Laws
