mod Tested
mod Classes
mod Worlds
pub mod Left
pub mod Steps
