pub mod Ids
pub mod Consumers
pub mod Groups
pub mod Nodes
pub mod Streams
