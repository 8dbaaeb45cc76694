pub mod Ranking
pub mod Scored
pub mod Relocation
pub mod Laws
pub mod Copied
