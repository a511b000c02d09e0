pub mod Steps
pub mod Spelt
pub mod Cutting
pub mod Chunks
pub mod Names
pub mod Back
