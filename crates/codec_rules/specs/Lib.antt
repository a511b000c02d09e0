pub mod Input
pub mod Sequence
pub mod Reading
pub mod Meets
pub mod Spelling
pub mod Laws
