pub mod Constants
pub mod Begins
pub mod Needs
