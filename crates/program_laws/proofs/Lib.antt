mod Built
pub mod Walks
pub mod Codes
