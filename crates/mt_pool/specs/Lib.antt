pub mod Spelling
pub mod Reading
pub mod Indices
pub mod Whole
