pub mod Alike
pub mod Named
pub mod Ranked
pub mod Between
pub mod Grouped
pub mod Finding
