pub mod Lines
pub mod Marking
pub mod Below
