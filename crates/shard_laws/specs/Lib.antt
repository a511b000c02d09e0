pub mod Shards
pub mod Merges
pub mod Laws
