pub mod Moving
pub mod Copying
pub mod KeyLemmas
pub mod Sifting
pub mod Told
pub mod Paging
pub mod Emptying
