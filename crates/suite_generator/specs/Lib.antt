pub mod Texts
pub mod Suite
pub mod Stated
