pub mod Reached
mod Marked
pub mod Below
