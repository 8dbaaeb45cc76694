pub mod Defaults
pub mod Forms
pub mod Limits
pub mod Names
pub mod Rising
