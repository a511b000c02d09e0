pub mod Once
pub mod Families
pub mod Above
pub mod Laws
pub mod Walks
